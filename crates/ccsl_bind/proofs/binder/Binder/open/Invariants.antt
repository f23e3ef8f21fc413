use Rattle.ccsl_bind.proofs.Declaring.{Named}
use Rattle.ccsl_bind.proofs.binder.Binder.open.Given as goal

abbrev pub invariant-loop-clock : goal.invariant-loop-clock
invariant-loop-clock l = Named l.names l.system.names l.found.items l.clock
