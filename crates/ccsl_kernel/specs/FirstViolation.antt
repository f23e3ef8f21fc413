-- The first place at which rows break an item.
use Rattle.std.specs.Prelude.{◌≡◌, ℕ, ◌<◌, List, true, false, length}
use Rattle.ccsl_base.specs.declared.rows.Row.{Row}
use Rattle.ccsl_kernel.specs.Syntax.{System, item_count}
use Rattle.ccsl_kernel.specs.Verdict.{is_violated}

-- the least step s at which an item is violated, and the least item i that is violated there
pub record IsFirstViolation (K : System) (bound : List ℕ) (rows : List Row) (s i : ℕ) : Type 0 where
  pub step : s < length rows
  pub item : i < item_count K
  pub violated : is_violated K bound rows s i ≡ true
  pub earlier : (n j : ℕ) → n < s → j < item_count K → is_violated K bound rows n j ≡ false
  pub lower : (j : ℕ) → j < i → is_violated K bound rows s j ≡ false
