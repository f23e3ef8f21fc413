-- What stands in the space, and what the rest adds, is the whole.
use Rattle.std.proofs.Common.{◌≡◌, ◌++◌, drop, map}
use Rattle.ccsl_ast.specs.Plain.{plain_sline}
use Rattle.ccsl_rules.specs.Spaces.{lines_space}
use Rattle.ccsl_spaces.proofs.locals.system_space.Given as goal

abbrev pub invariant-loop-number : goal.invariant-loop-number
invariant-loop-number l = l.space ++ lines_space l.number (map plain_sline (drop l.number l.lines)) ≡ lines_space 0 (map plain_sline l.lines)
