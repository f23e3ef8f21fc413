use Rattle.ccsl_relate.proofs.Told.{Gathers}
use Rattle.ccsl_relate.proofs.readers.Group.gather.Given as goal

abbrev pub invariant-loop-clock : goal.invariant-loop-clock
invariant-loop-clock l = Gathers l.self l.clocks l.clock-iterator l.fn.touched l.touched
