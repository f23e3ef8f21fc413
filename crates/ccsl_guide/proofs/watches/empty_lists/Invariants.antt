use Rattle.std.proofs.Common.{◌≡◌, All, length}
use Rattle.ccsl_guide.proofs.watches.empty_lists.Given as goal

abbrev pub invariant-loop : goal.invariant-loop
invariant-loop l = record {
  places : length l.lists.items ≡ l.counter;
  empty : All (λ list. length list.items ≡ 0) l.lists.items;
}
