-- The clocks that are left.
use Rattle.ccsl_state.proofs.Visiting.{IsHearing}
use Rattle.ccsl_state.proofs.readers.Readers.hear.Given as goal

abbrev pub invariant-loop-clock : goal.invariant-loop-clock
invariant-loop-clock l = IsHearing l.self.sets.items l.unsettled l.step l.clock-iterator l.waiting
