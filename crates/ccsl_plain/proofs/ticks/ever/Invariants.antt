-- Whether there is a tick in the rest is whether there is one.
use Rattle.std.proofs.Common.{◌≡◌, drop}
use Rattle.ccsl_kernel.specs.Ticks.{ever}
use Rattle.ccsl_plain.proofs.ticks.ever.Given as goal

abbrev pub invariant-loop-tick : goal.invariant-loop-tick
invariant-loop-tick l = ever (drop l.tick-index l.ticks) ≡ ever l.ticks
