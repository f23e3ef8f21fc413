-- The least set that satisfies some formulas. No public contract speaks of it.
use Rattle.std.specs.Prelude.{ℕ, zero, suc, ◌<◌, ◌≡◌, List, [], ◌∷◌, ◌++◌, true, false}
use Rattle.ccsl_base.specs.Clocks.{ticks_in, is_ascending}
use Rattle.ccsl_formula.specs.declared.scope.Scope.{Scope}
use Rattle.ccsl_formula.specs.Truth.{Assignment}
use Rattle.ccsl_formula.specs.Formula.{Formula, in_set}
use Rattle.ccsl_refute.specs.declared.line.Lit.{Lit}
use Rattle.ccsl_refute.specs.Meaning.{Solves}
use Rattle.ccsl_explain.specs.Least.{IsLesser}

-- the clocks below n, negative
abbrev pub negatives : ℕ → List Lit
negatives zero = []
negatives (suc n) = negatives n ++ record { clock = n; positive = false } ∷ []

-- s has named members only, satisfies the formulas, and no lesser values do
pub record IsLeastStep (scope : Scope) (formulas : List Formula) (s : List ℕ) : Type 0 where
  pub ascending : is_ascending s ≡ true
  pub named : (x : ℕ) → ticks_in x s ≡ true → x < scope.named
  pub solves : Solves scope formulas (in_set s)
  pub least : (t : Assignment) → Solves scope formulas t → IsLesser scope.named t (in_set s) → ⊥
