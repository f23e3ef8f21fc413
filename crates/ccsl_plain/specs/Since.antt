-- The four ways in which a tick of a may wait for d, as one.
use Rattle.std.specs.Prelude.{ℕ, List, Bool, not, ◌&&◌, nat_eq, nat_lt}
use Rattle.ccsl_plain.specs.declared.ticks.Since.{Since}
use Rattle.ccsl_plain.specs.declared.ticks.Since.TheVariants.{NoneAfter, NoneFrom, Just, Fewer}
use Rattle.ccsl_kernel.specs.Ticks.{waits, waits_weakly, waits_since, waits_below}

-- where d ticks with the tick of a or not, and so often after it
abbrev pub wait_of : Since → Bool → ℕ → Bool
wait_of NoneAfter d after = nat_eq after 0
wait_of NoneFrom d after = not d && nat_eq after 0
wait_of (Just k) d after = nat_eq after k
wait_of (Fewer m) d after = nat_lt after m

abbrev pub some_waits : Since → List Bool → List Bool → Bool
some_waits NoneAfter = waits
some_waits NoneFrom = waits_weakly
some_waits (Just k) = waits_since k
some_waits (Fewer m) = waits_below m
