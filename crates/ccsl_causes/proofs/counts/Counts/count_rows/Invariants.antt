-- The rows so far are counted.
use Rattle.std.proofs.Common.{◌≡◌, ℕ, ◌<◌, map, take, length, slice_index_or}
use Rattle.ccsl_causes.specs.Counted.{counted_over}
use Rattle.ccsl_causes.proofs.counts.Counts.count_rows.Given as goal

abbrev pub invariant-loop-i : goal.invariant-loop-i
invariant-loop-i l = record {
  clocks : length l.self ≡ length l.fn.self;
  counts : (x : ℕ) → x < length l.fn.self →
      slice_index_or l.self x 0 ≡ counted_over x (map (λ row. row.ticks) (take l.i l.block.rows)) (slice_index_or l.fn.self x 0);
}
