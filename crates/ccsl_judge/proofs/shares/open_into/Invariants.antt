use Rattle.std.proofs.Common.{◌≡◌, ◌+◌, ◌-◌, ◌*◌, ◌≤◌, [], length}
use Rattle.ccsl_kernel.specs.Syntax.{item_count}
use Rattle.ccsl_judge.specs.declared.weights.TheConstants.{WITH_STATES}
use Rattle.ccsl_judge.specs.Divided.{Follow}
use Rattle.ccsl_judge.specs.Weights.{weight_before}
use Rattle.ccsl_judge.proofs.shares.open_into.Given as goal

-- one share was opened a turn: the shares so far have the items up to the cut, each share that is left has an item, and the last one has the last item
abbrev pub invariant-loop-done : goal.invariant-loop-done
invariant-loop-done l = record {
  follow : Follow l.system l.bound [] 0 l.shares.items l.cut.item;
  room : l.cut.item + (l.count - l.done) ≤ item_count l.system;
  last : l.done ≡ l.count → l.cut.item ≡ item_count l.system;
  opened : length l.shares.items ≡ l.done;
  weight : l.cut.weight ≤ l.cut.item * WITH_STATES;
  weighed : l.cut.weight ≡ weight_before l.system l.bound l.cut.item;
}
