use Rattle.std.proofs.Common.{◌≡◌, ◌≤◌, length}
use Rattle.ccsl_guide.proofs.order.Order.compact.Given as goal

abbrev pub invariant-loop-place : goal.invariant-loop-place
invariant-loop-place l = record {
  kept : l.kept ≤ l.place;
  same : length l.self.queue.items ≡ length l.fn.self.queue.items;
  clocks : length l.self.clocks.items ≡ length l.fn.self.clocks.items;
}
