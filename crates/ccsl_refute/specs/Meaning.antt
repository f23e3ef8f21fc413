-- What clauses and formulas say of sets of clocks, given as values of all clocks.
use Rattle.std.specs.Prelude.{ℕ, List, [], ◌∷◌, true, ◌≡◌, ◌<◌}
use Rattle.ccsl_formula.specs.declared.scope.Scope.{Scope}
use Rattle.ccsl_formula.specs.Truth.{Assignment}
use Rattle.ccsl_formula.specs.Formula.{Formula, truth, in_set}

abbrev pub AllTrue : List Formula → Assignment → Type 0
AllTrue [] v = Unit {0}
AllTrue (f ∷ fs) v = (truth f v ≡ true) × AllTrue fs v

-- a declared clock is true, and so is each formula
pub record Solves (scope : Scope) (formulas : List Formula) (v : Assignment) : Type 0 where
  pub member : (x : ℕ) × (x < scope.declared) × (v x ≡ true)
  pub all : AllTrue formulas v

-- no set with a declared member satisfies all formulas
abbrev pub Blocks : Scope → List Formula → Type 0
Blocks scope formulas = (set : List ℕ) → Solves scope formulas (in_set set) → ⊥
