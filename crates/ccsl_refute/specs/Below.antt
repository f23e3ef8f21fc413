-- Clauses whose clocks are below a bound.
use Rattle.std.specs.Prelude.{ℕ, ◌<◌, ◌≡◌, List, [], ◌∷◌, Some, slice_get}
use Rattle.ccsl_refute.specs.declared.line.Lit.{Lit}
use Rattle.ccsl_refute.specs.declared.line.Line.{Line}
use Rattle.ccsl_refute.specs.Validity.{clause}

-- each clock of a list of literals is below n
abbrev pub AreBelow : ℕ → List Lit → Type 0
AreBelow n [] = Unit {0}
AreBelow n (l ∷ ls) = (l.clock < n) × AreBelow n ls

-- each clock of a clause is below n
pub record ClausesBelow (n declared : ℕ) (lines : List Line) : Type 0 where
  pub below : (i : ℕ) (line : Line) → slice_get lines i ≡ Some line → AreBelow n (clause declared line)
