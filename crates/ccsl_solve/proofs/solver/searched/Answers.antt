use Rattle.std.proofs.Common.{arith}
use Rattle.ccsl_solve.proofs.Guided.{valid-named}
use Rattle.ccsl_solve.proofs.solver.searched.Goals as goal

pub open-requires-clause-lines : goal.open-requires-clause-lines
open-requires-clause-lines c = rw c.deref.ensures.value (valid-named c.args.problem.now c.args.lines.now.items c.requires.sound.valid)

pub search-requires-clause-settled : goal.search-requires-clause-settled
search-requires-clause-settled c = λ i l before is. absurd (omega (arith, before))
