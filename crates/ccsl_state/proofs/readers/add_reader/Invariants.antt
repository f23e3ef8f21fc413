-- The clocks that are left.
use Rattle.ccsl_state.proofs.Visiting.{IsAdding}
use Rattle.ccsl_state.proofs.readers.add_reader.Given as goal

abbrev pub invariant-loop-clock : goal.invariant-loop-clock
invariant-loop-clock l = IsAdding l.i l.clocks l.initial.sets l.clock-iterator l.sets
