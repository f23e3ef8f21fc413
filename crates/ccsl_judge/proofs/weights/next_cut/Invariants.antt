use Rattle.std.proofs.Common.{◌≡◌, ℕ, ◌*◌, ◌<◌, ◌≤◌}
use Rattle.ccsl_judge.specs.declared.weights.TheConstants.{WITH_STATES}
use Rattle.ccsl_judge.specs.Weights.{weight_before, aim}
use Rattle.ccsl_judge.proofs.weights.next_cut.Given as goal

-- the items so far have not reached the aim
abbrev pub invariant-loop-item : goal.invariant-loop-item
invariant-loop-item l = record {
  weight : l.weight ≤ l.item * WITH_STATES;
  weighed : l.weight ≡ weight_before l.system l.bound l.item;
  below : (n : ℕ) → 2 ≤ l.left → l.fn.cut.item < n → n ≤ l.item → weight_before l.system l.bound n < aim l.fn.cut.weight l.left l.all;
}
