-- What stands in the space, and what the rest adds, is the whole.
use Rattle.std.proofs.Common.{◌≡◌, ◌++◌, drop, map}
use Rattle.ccsl_ast.specs.Trees.{SLineOf}
use Rattle.ccsl_ast.specs.Plain.{plain_line}
use Rattle.ccsl_rules.specs.Spaces.{params_space, lines_space}
use Rattle.ccsl_spaces.proofs.locals.relation_space.Given as goal

abbrev pub invariant-loop-number : goal.invariant-loop-number
invariant-loop-number l =
    l.space ++ lines_space l.number (map SLineOf (map plain_line (drop l.number l.lines))) ≡ params_space l.params
    ++ lines_space 0 (map SLineOf (map plain_line l.lines))
