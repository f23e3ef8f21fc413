-- When two formulas say the same.
use Rattle.std.specs.Prelude.{◌≡◌}
use Rattle.ccsl_formula.specs.Truth.{Part, Assignment}
use Rattle.ccsl_formula.specs.Formula.{Formula, truth, kleene}

-- the same truth value under all values, and the same Kleene value under all partial assignments
pub record Same (f g : Formula) : Type 0 where
  pub truth : (v : Assignment) → truth f v ≡ truth g v
  pub kleene : (p : Part) → kleene f p ≡ kleene g p
