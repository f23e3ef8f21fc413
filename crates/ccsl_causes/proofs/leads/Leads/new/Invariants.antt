-- The sides are those of the left clocks so far, and none of them has a lead where none was found.
use Rattle.std.proofs.Common.{◌≡◌, ◌<◌, ℕ, false, length, map}
use Rattle.std.specs.List.{range_with_len}
use Rattle.ccsl_causes.specs.Leading.{leads_of}
use Rattle.ccsl_causes.proofs.leads.Leads.new.Given as goal

abbrev pub invariant-loop-left : goal.invariant-loop-left
invariant-loop-left l = record {
  sides : l.sides.items ≡ map (leads_of l.system) (range_with_len 0 l.left);
  none : l.is_any ≡ false → (x : ℕ) → x < l.left → length (leads_of l.system x) ≡ 0;
}
