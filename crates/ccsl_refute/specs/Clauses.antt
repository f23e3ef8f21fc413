-- When the clauses of lines hold.
use Rattle.std.specs.Prelude.{ℕ, List, [], ◌∷◌, Bool, true, false, ◌||◌, ◌≡◌, Some, slice_get}
use Rattle.ccsl_formula.specs.Truth.{Assignment}
use Rattle.ccsl_formula.specs.Formula.{same}
use Rattle.ccsl_refute.specs.declared.line.Lit.{Lit}
use Rattle.ccsl_refute.specs.declared.line.Line.{Line}
use Rattle.ccsl_refute.specs.Validity.{clause}

-- whether some literal is true
abbrev pub holds : Assignment → List Lit → Bool
holds v [] = false
holds v (l ∷ ls) = same (v l.clock) l.positive || holds v ls

-- the clause of each line holds
pub record ClausesHold (declared : ℕ) (lines : List Line) (v : Assignment) : Type 0 where
  pub at : (i : ℕ) (line : Line) → slice_get lines i ≡ Some line → holds v (clause declared line) ≡ true
