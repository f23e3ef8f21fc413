use Rattle.std.proofs.Common.{◌≡◌, ◌≤◌}
use Rattle.ccsl_periodic.specs.Ones.{ones}
use Rattle.ccsl_periodic.proofs.Failing.{IsSoFar}
use Rattle.ccsl_periodic.proofs.failure.first_in_turns.Given as goal

abbrev pub invariant-loop-k : goal.invariant-loop-k
invariant-loop-k l = record {
  left : l.left_ones ≡ ones l.left l.k;
  right : l.right_ones ≡ ones l.right l.k;
  left_few : l.left_ones ≤ l.k;
  right_few : l.right_ones ≤ l.k;
  so_far : IsSoFar l.left l.right l.turn l.first l.k;
}
