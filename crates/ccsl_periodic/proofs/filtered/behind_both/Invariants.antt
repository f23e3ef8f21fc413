use Rattle.std.proofs.Common.{◌≡◌, ◌<◌, ◌≤◌, ℕ, length}
use Rattle.ccsl_periodic.specs.Ones.{ones}
use Rattle.ccsl_periodic.proofs.filtered.behind_both.Given as goal

abbrev pub invariant-loop-k : goal.invariant-loop-k
invariant-loop-k l = record {
  counted : l.count ≡ ones l.left l.k;
  few : l.count ≤ l.k;
  before : (j : ℕ) → length l.left.prefix ≤ j → j < l.k → ones l.left j < length l.right.prefix;
}
