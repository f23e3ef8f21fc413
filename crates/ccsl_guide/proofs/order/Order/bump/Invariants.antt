use Rattle.std.proofs.Common.{◌≡◌, length}
use Rattle.ccsl_guide.proofs.order.Order.bump.Given as goal

abbrev pub invariant-loop-lit : goal.invariant-loop-lit
invariant-loop-lit l = length l.self.clocks.items ≡ l.fn.problem.scope.named
