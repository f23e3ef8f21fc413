use Rattle.std.proofs.Common.{◌≡◌, List, All, length, map}
use Rattle.ccsl_formula.specs.Variables.{ReadsBelow}
use Rattle.ccsl_formula.specs.Plain.{plain}
use Rattle.ccsl_kernel.specs.Lives.{Step, steps}
use Rattle.ccsl_kernel.specs.Items.{item_formula}
use Rattle.ccsl_state.specs.Held.{StandsFor}
use Rattle.ccsl_items.proofs.formulas.put_formulas.Given as goal

-- the formulas of the first items are listed
abbrev pub invariant-loop-item : goal.invariant-loop-item
invariant-loop-item l = record {
  formulas : (T : List Step) → StandsFor l.states T → map plain l.formulas.items ≡ map (item_formula l.system T (length T)) (steps 0 l.item);
  below : All (ReadsBelow (length l.system.names)) (map plain l.formulas.items);
  count : length l.formulas.items ≡ l.item;
}
