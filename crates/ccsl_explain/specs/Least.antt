-- THE LEAST STEP that would be possible without one item of a core. This project's own.
use Rattle.std.specs.Prelude.{ℕ, ◌<◌, ◌≡◌, ◌≢◌, List, true, false, Contains}
use Rattle.ccsl_base.specs.Clocks.{ticks_in, is_ascending}
use Rattle.ccsl_formula.specs.declared.scope.Scope.{Scope}
use Rattle.ccsl_formula.specs.Truth.{Assignment}
use Rattle.ccsl_formula.specs.Formula.{Formula, in_set}
use Rattle.ccsl_explain.specs.Core.{Satisfies}

-- of two sets the one without the first clock, by number, at which they differ is the lesser
pub record IsLesser (n : ℕ) (s t : Assignment) : Type 0 where
  pub clock : ℕ
  pub named : clock < n
  pub out : s clock ≡ false
  pub in_other : t clock ≡ true
  pub before : (d : ℕ) → d < clock → s d ≡ t d

-- the other members of a core
abbrev pub IsOther : List ℕ → ℕ → ℕ → Type 0
IsOther core i j = Contains core j × (j ≢ i)

-- s is the least set of named clocks that has a declared member and satisfies every other item of the core
pub record IsLeastWithout (scope : Scope) (formulas : List Formula) (core : List ℕ) (i : ℕ) (s : List ℕ) : Type 0 where
  pub ascending : is_ascending s ≡ true
  pub named : (x : ℕ) → ticks_in x s ≡ true → x < scope.named
  pub satisfies : Satisfies scope formulas (IsOther core i) (in_set s)
  pub least : (t : Assignment) → Satisfies scope formulas (IsOther core i) t → IsLesser scope.named t (in_set s) → ⊥
