use Rattle.std.proofs.Common.{◌≡◌, ◌≤◌, map}
use Rattle.std.specs.List.{range_with_len}
use Rattle.ccsl_periodic.specs.Ones.{ones}
use Rattle.ccsl_periodic.specs.Filtered.{on_letter}
use Rattle.ccsl_periodic.proofs.filtered.on_letters.Given as goal

abbrev pub invariant-loop-k : goal.invariant-loop-k
invariant-loop-k l = record {
  read : l.letters.items ≡ map (on_letter l.left l.right) (range_with_len 0 l.k);
  counted : l.left_ones ≡ ones l.left l.k;
  few : l.left_ones ≤ l.k;
}
