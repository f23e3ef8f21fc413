use Rattle.std.proofs.Common.{◌≡◌, ℕ, suc, ◌-◌, [], vec_len, slice_index_or}
use Rattle.ccsl_relate.proofs.readers.enter_clock.Given as goal

-- no clock has more places than before
abbrev pub invariant-loop-places : goal.invariant-loop-places
invariant-loop-places l = (c : ℕ) → slice_index_or l.places.items c [] ≡ slice_index_or l.fn.places.items c []

abbrev pub decreases-loop-places : goal.decreases-loop-places
decreases-loop-places l = suc l.clock - vec_len l.places
