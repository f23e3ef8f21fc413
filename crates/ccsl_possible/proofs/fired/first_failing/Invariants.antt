use Rattle.std.proofs.Common.{List}
use Rattle.ccsl_kernel.specs.Lives.{Step}
use Rattle.ccsl_state.specs.Held.{StandsFor}
use Rattle.ccsl_possible.proofs.Failing.{NoneBefore}
use Rattle.ccsl_possible.proofs.fired.first_failing.Given as goal

-- the constraints before the present item do not fail
abbrev pub invariant-loop-item : goal.invariant-loop-item
invariant-loop-item l = (T : List Step) → StandsFor l.states T → NoneBefore l.system T l.set l.item
