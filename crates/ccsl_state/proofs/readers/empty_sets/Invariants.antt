-- The sets so far.
use Rattle.std.proofs.Common.{◌≡◌, ℕ, [], length, slice_index_or}
use Rattle.ccsl_state.proofs.readers.empty_sets.Given as goal

abbrev pub invariant-loop : goal.invariant-loop
invariant-loop l = record {
  count : length l.sets.items ≡ l.counter;
  empty : (y : ℕ) → slice_index_or l.sets.items y [] ≡ [];
}
