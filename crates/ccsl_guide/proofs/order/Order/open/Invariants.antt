use Rattle.std.proofs.Common.{◌≡◌, ◌<◌, ◌+◌, All, length}
use Rattle.ccsl_guide.proofs.order.Order.open.Given as goal

abbrev pub invariant-loop-clock : goal.invariant-loop-clock
invariant-loop-clock l = record {
  below : All (λ c. c < l.problem.scope.named) l.queue.items;
  queue : length l.queue.items + l.clock ≡ l.problem.scope.named;
  clocks : length l.clocks.items + l.clock ≡ l.problem.scope.named;
}
