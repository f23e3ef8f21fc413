use Rattle.ccsl_bind.proofs.Walking.{Walked}
use Rattle.ccsl_bind.proofs.binder.bound_clocks.Given as goal

abbrev pub invariant-loop-i : goal.invariant-loop-i
invariant-loop-i l = Walked l.declared l.found l.bound l.i
