-- One item after the other is taken out where the others block without it. No public contract speaks of it.
use Rattle.std.specs.Prelude.{ℕ, ◌<◌, ◌≤◌, ◌≡◌, ◌⊎◌, List, Bool, true, false, All, Contains}
use Rattle.ccsl_base.specs.Clocks.{is_ascending}
use Rattle.ccsl_formula.specs.declared.scope.Scope.{Scope}
use Rattle.ccsl_formula.specs.Formula.{Formula}
use Rattle.ccsl_explain.specs.Asked.{HasStep}
use Rattle.ccsl_explain.specs.Core.{AreOpen, Block, BesideIt}
use Rattle.ccsl_explain.specs.Masked.{without}

-- whether an item stays: without it there is a step; or it is taken out
abbrev pub Stays : Scope → List Formula → List Formula → ℕ → Bool → Type 0
Stays scope old new i true = (new ≡ old) × HasStep scope (without old i)
Stays scope old new i false = new ≡ without old i

-- the items that are left when the turn comes to item n: the members of the core below it, and all items from it on
abbrev pub IsLeft : List ℕ → ℕ → ℕ → Type 0
IsLeft core n j = (Contains core j × (j < n)) ⊎ (n ≤ j)

-- the core as far as item n
pub record IsCoreBelow (scope : Scope) (formulas : List Formula) (n : ℕ) (core : List ℕ) : Type 0 where
  pub ascending : is_ascending core ≡ true
  pub items : All (λ i. i < n) core
  pub kept : All (λ i. AreOpen scope formulas (BesideIt core i)) core
  pub dropped : (i : ℕ) → i < n → (Contains core i → ⊥) → Block scope formulas (BesideIt core i)
