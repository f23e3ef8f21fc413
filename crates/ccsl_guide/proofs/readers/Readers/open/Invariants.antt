use Rattle.std.proofs.Common.{◌≡◌, ◌<◌, All, length}
use Rattle.ccsl_guide.proofs.readers.Readers.open.Given as goal

abbrev pub invariant-loop-item : goal.invariant-loop-item
invariant-loop-item l = record {
  clocks : length l.readers.firsts.items ≡ l.problem.scope.named;
  items : All (λ x. x.item < length l.problem.formulas.now) l.readers.readers.items;
}
