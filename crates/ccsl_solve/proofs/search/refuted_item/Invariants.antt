use Rattle.std.proofs.Common.{◌≡◌, ◌<◌, ℕ, false, map, slice_get}
use Rattle.ccsl_formula.specs.Known.{known}
use Rattle.ccsl_formula.specs.Plain.{plain}
use Rattle.ccsl_refute.specs.Validity.{is_refuted}
use Rattle.ccsl_solve.proofs.search.refuted_item.Given as goal

abbrev pub invariant-loop-item : goal.invariant-loop-item
invariant-loop-item l = (k : ℕ) → k < l.item → is_refuted (known l.part) (slice_get (map plain l.formulas) k) ≡ false
