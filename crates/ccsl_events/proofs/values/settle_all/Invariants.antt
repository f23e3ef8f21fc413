use Rattle.std.proofs.Common.{◌≡◌, drop, map}
use Rattle.ccsl_triggers.specs.Held.{held}
use Rattle.ccsl_events.specs.Keeping.{settle_each}
use Rattle.ccsl_events.proofs.values.settle_all.Given as goal

abbrev pub invariant-loop-number : goal.invariant-loop-number
invariant-loop-number l =
    settle_each (drop l.number-index l.numbers) (map held l.signals) ≡ settle_each l.numbers (map held l.fn.signals)
