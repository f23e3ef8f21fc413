use Rattle.std.proofs.Common.{◌≡◌, ◌++◌, map, take, drop}
use Rattle.ccsl_triggers.specs.Held.{held, forget_held}
use Rattle.ccsl_events.proofs.values.forget_all.Given as goal

abbrev pub invariant-loop-signal : goal.invariant-loop-signal
invariant-loop-signal l =
    map held l.signal-items
    ≡ map forget_held (take l.signal-index (map held l.fn.signals)) ++ drop l.signal-index (map held l.fn.signals)
