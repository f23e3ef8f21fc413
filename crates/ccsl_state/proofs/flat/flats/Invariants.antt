-- The definitions so far.
use Rattle.std.proofs.Common.{◌≡◌, ℕ, length}
use Rattle.std.specs.Prelude.{None, slice_index_or}
use Rattle.ccsl_state.specs.Flats.{IsFlatAt}
use Rattle.ccsl_state.proofs.flat.flats.Given as goal

abbrev pub invariant-loop-i : goal.invariant-loop-i
invariant-loop-i l = record {
  count : length l.flats.items ≡ l.i;
  each : (i : ℕ) → IsFlatAt l.system i (slice_index_or l.flats.items i None);
}
