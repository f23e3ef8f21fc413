use Rattle.std.proofs.Common.{◌≡◌, ◌<◌, ◌≤◌, ℕ, false}
use Rattle.ccsl_periodic.specs.Ones.{ones}
use Rattle.ccsl_periodic.specs.Failures.{fails_at}
use Rattle.ccsl_periodic.proofs.failure.first_below.Given as goal

abbrev pub invariant-loop-k : goal.invariant-loop-k
invariant-loop-k l = record {
  left : l.left_ones ≡ ones l.left l.k;
  right : l.right_ones ≡ ones l.right l.k;
  left_few : l.left_ones ≤ l.k;
  right_few : l.right_ones ≤ l.k;
  none : (j : ℕ) → j < l.k → fails_at l.relation l.left l.right j ≡ false;
}
