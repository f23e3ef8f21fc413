-- Items that are taken out of a list of formulas: the true formula stands in their places. No public contract speaks of it.
use Rattle.std.specs.Prelude.{ℕ, ◌≡◌, ◌⊎◌, List, Some, slice_get, slice_set}
use Rattle.ccsl_formula.specs.Formula.{Formula, FTrue}

-- the formulas without that of an item
abbrev pub without : List Formula → ℕ → List Formula
without formulas item = slice_set formulas item FTrue

-- the formulas of these items, and the true formula in the places of others
pub record IsMasked (formulas : List Formula) (IsAmong : ℕ → Type 0) (masked : List Formula) : Type 0 where
  pub kept : (j : ℕ) (f : Formula) → IsAmong j → slice_get formulas j ≡ Some f → slice_get masked j ≡ Some f
  pub others : (j : ℕ) (f : Formula) → slice_get masked j ≡ Some f → (f ≡ FTrue) ⊎ (IsAmong j × (slice_get formulas j ≡ Some f))
