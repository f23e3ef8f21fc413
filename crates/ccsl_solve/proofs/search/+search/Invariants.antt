use Rattle.std.proofs.Common.{◌+◌, ◌*◌}
use Rattle.ccsl_formula.specs.Known.{known}
use Rattle.ccsl_solve.specs.Under.{open_count}
use Rattle.ccsl_solve.proofs.search.+search.Given as goal

abbrev pub decreases-search_with : goal.decreases-search_with
decreases-search_with l = 4 * open_count l.problem.now.scope.named (known l.part.now)

abbrev pub decreases-search_against : goal.decreases-search_against
decreases-search_against l = 4 * open_count l.problem.now.scope.named (known l.part.now) + 1

abbrev pub decreases-search_both : goal.decreases-search_both
decreases-search_both l = 4 * open_count l.problem.now.scope.named (known l.part.now) + 2

abbrev pub decreases-search : goal.decreases-search
decreases-search l = 4 * open_count l.problem.now.scope.named (known l.part.now) + 3
