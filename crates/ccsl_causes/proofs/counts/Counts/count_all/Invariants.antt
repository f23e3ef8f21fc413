-- The counts in front of a place are those behind the step, and the others those before it.
use Rattle.std.proofs.Common.{◌≡◌, get_or}
use Rattle.ccsl_base.specs.Clocks.{ticks_in}
use Rattle.ccsl_base.proofs.Differences.{Made}
use Rattle.ccsl_causes.specs.Counted.{counted}
use Rattle.ccsl_causes.proofs.counts.Counts.count_all.Given as goal

abbrev pub invariant-loop-at : goal.invariant-loop-at
invariant-loop-at l = Made (λ x n. n ≡ counted (ticks_in x l.step) (get_or l.fn.self x 0)) l.at l.self-inside.ticks.items l.fn.self
