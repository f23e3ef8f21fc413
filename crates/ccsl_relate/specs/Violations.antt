-- WHERE ONE OF SOME NEIGHBOURING ITEMS IS FIRST VIOLATED by the rows of a trace: of `count` items from number `start` on.
-- `recorded` is the set of bound clocks.
use Rattle.std.specs.Prelude.{◌≡◌, ℕ, ◌+◌, ◌<◌, ◌≤◌, List, Option, Some, None, true, false, map, length, slice_index}
use Rattle.ccsl_base.specs.declared.rows.Row.{Row}
use Rattle.ccsl_kernel.specs.Syntax.{System}
use Rattle.ccsl_kernel.specs.Verdict.{is_violated}
use Rattle.ccsl_relate.specs.declared.violation.Violation.{Violation}

module _ (K : System) (recorded : List ℕ) (rows : List Row) (start count : ℕ) where
  -- none of the items is violated at a step
  abbrev pub AreObeyed : Type 0
  AreObeyed = (n j : ℕ) → n < length rows → start ≤ j → j < start + count → is_violated K recorded rows n j ≡ false

  -- the least step at which one of the items is violated, with its row's time, and the least of the items that is violated there
  pub record IsFirst (v : Violation) : Type 0 where
    pub step : v.step < length rows
    pub time : v.time ≡ slice_index (map (λ row. row.time) rows) v.step
    pub from : start ≤ v.item
    pub below : v.item < start + count
    pub violated : is_violated K recorded rows v.step v.item ≡ true
    pub earlier : (n j : ℕ) → n < v.step → start ≤ j → j < start + count → is_violated K recorded rows n j ≡ false
    pub lower : (j : ℕ) → start ≤ j → j < v.item → is_violated K recorded rows v.step j ≡ false

  -- where the items are first violated, or that none is
  abbrev pub Finds : Option Violation → Type 0
  Finds None = AreObeyed
  Finds (Some v) = IsFirst v
