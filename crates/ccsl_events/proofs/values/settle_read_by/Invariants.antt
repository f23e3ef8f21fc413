use Rattle.std.proofs.Common.{◌≡◌, map}
use Rattle.ccsl_triggers.specs.Held.{held}
use Rattle.ccsl_events.specs.Keeping.{settle_read}
use Rattle.ccsl_events.proofs.values.settle_read_by.Given as goal

abbrev pub invariant-loop-name : goal.invariant-loop-name
invariant-loop-name l =
    settle_read l.name-iterator l.watches (map held l.signals) ≡ settle_read l.names l.watches (map held l.fn.signals)
