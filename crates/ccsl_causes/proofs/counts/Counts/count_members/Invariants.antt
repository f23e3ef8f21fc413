-- What was counted, with what is still to be counted, is the step.
use Rattle.std.proofs.Common.{true}
use Rattle.ccsl_causes.specs.Counted.{counted}
use Rattle.ccsl_causes.proofs.Visiting.{IsVisiting}
use Rattle.ccsl_causes.proofs.counts.Counts.count_members.Given as goal

abbrev pub invariant-loop-clock : goal.invariant-loop-clock
invariant-loop-clock l = IsVisiting (λ _ n. counted true n) 0 l.step l.fn.self l.clock-iterator l.self-inside.ticks.items
