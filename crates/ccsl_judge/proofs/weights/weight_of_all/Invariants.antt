use Rattle.std.proofs.Common.{◌≡◌, ◌*◌, ◌≤◌}
use Rattle.ccsl_judge.specs.declared.weights.TheConstants.{WITH_STATES}
use Rattle.ccsl_judge.specs.Weights.{weight_before}
use Rattle.ccsl_judge.proofs.weights.weight_of_all.Given as goal

abbrev pub invariant-loop-item : goal.invariant-loop-item
invariant-loop-item l = record {
  weight : l.weight ≡ weight_before l.system l.bound l.item;
  most : l.weight ≤ l.item * WITH_STATES;
}
