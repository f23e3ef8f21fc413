-- The chosen set, and what a choice answers. This project's own.
use Rattle.std.specs.Prelude.{ℕ, List, true, ◌≡◌, ◌<◌}
use Rattle.ccsl_base.specs.Clocks.{ticks_in}
use Rattle.ccsl_formula.specs.declared.scope.Scope.{Scope}
use Rattle.ccsl_formula.specs.Truth.{Assignment}
use Rattle.ccsl_formula.specs.Formula.{Formula, in_set}
use Rattle.ccsl_refute.specs.declared.line.Line.{Line}
use Rattle.ccsl_refute.specs.Validity.{is_certificate}
use Rattle.ccsl_refute.specs.Meaning.{Solves}
use Rattle.ccsl_policy.specs.declared.policies.Policy.{Policy}
use Rattle.ccsl_policy.specs.declared.choice.Choice.{Choice}
use Rattle.ccsl_policy.specs.declared.choice.Choice.TheVariants.{Step, Deadlock}
use Rattle.ccsl_policy.specs.Better.{IsBetter}

-- s has a declared member and named ones only, satisfies all formulas, and no set that has a declared member and satisfies them is better
pub record IsChosen (scope : Scope) (formulas : List Formula) (policy : Policy) (words : List ℕ) (s : List ℕ) : Type 0 where
  pub solves : Solves scope formulas (in_set s)
  pub inside : (x : ℕ) → ticks_in x s ≡ true → x < scope.named
  pub best : (t : Assignment) → Solves scope formulas t → IsBetter scope.declared policy words t (in_set s) → ⊥

-- no set with a declared member satisfies all formulas, as the lines show
pub record IsDeadlock (scope : Scope) (formulas : List Formula) (lines : List Line) : Type 0 where
  pub none : (v : Assignment) → Solves scope formulas v → ⊥
  pub certificate : is_certificate scope formulas lines ≡ true

abbrev pub Chooses : Scope → List Formula → Policy → List ℕ → Choice → Type 0
Chooses scope formulas policy words (Step s) = IsChosen scope formulas policy words s
Chooses scope formulas policy words (Deadlock lines) = IsDeadlock scope formulas lines
