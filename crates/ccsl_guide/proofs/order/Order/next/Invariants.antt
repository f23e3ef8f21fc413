use Rattle.std.proofs.Common.{◌≡◌, length}
use Rattle.ccsl_guide.proofs.order.Order.next.Given as goal

abbrev pub invariant-loop-self : goal.invariant-loop-self
invariant-loop-self l = length l.self.clocks.items ≡ length l.fn.self.clocks.items

abbrev pub decreases-loop-self : goal.decreases-loop-self
decreases-loop-self l = l.self.end
