-- Whether a tick waits from i on is whether one does, and d ticks so often from i on.
use Rattle.std.proofs.Common.{◌≡◌, drop}
use Rattle.ccsl_kernel.specs.Ticks.{count}
use Rattle.ccsl_plain.specs.Since.{some_waits}
use Rattle.ccsl_plain.proofs.ticks.some_waits.Given as goal

abbrev pub invariant-loop-i : goal.invariant-loop-i
invariant-loop-i l = record { rest : some_waits l.since (drop l.i l.a) (drop l.i l.d) ≡ some_waits l.since l.a l.d; after : l.after ≡ count (drop l.i l.d) }
