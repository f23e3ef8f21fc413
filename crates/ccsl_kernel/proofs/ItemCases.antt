-- The formula of an item, by where it stands; and what a definition is followed with.
use Rattle.std.proofs.Common.{◌≡◌, ℕ, suc, ◌+◌, ◌-◌, ◌≤◌, List, ◌∷◌, map, length, Bool, true, false, cond, Some, slice_get, refl, sym, ap, ◌∙◌, arith}
use Rattle.std.specs.List.{count_by}
use Rattle.std.proofs.Math.Seq.{take-length}
use Rattle.std.proofs.lemmas.List.Recursion.{is_count_by}
use Rattle.std.proofs.lemmas.Option.{slice_get_past}
use Rattle.ccsl_base.specs.declared.limits.TheConstants.{MAX_LEVELS}
use Rattle.ccsl_base.specs.Clocks.{ticks_in}
use Rattle.ccsl_kernel.specs.declared.constraint.Constraint.{Constraint}
use Rattle.ccsl_kernel.specs.Syntax.{Expression, System}
use Rattle.ccsl_kernel.specs.Ticks.{count}
use Rattle.ccsl_kernel.specs.Lives.{Step}
use Rattle.ccsl_kernel.specs.Items.{clock_count, constraint_formula, definition_formula, constraint_or_true, item_or_constraint, item_formula}
use Rattle.ccsl_kernel.specs.Accepted.{IsAccepted}
use Rattle.ccsl_kernel.specs.Fitting.{ExprFits}
use Rattle.ccsl_kernel.specs.Deep.{deep}
use Rattle.ccsl_kernel.proofs.Definitions.{definitions-are}
use Rattle.ccsl_kernel.proofs.AcceptedParts.{definition_is, definition_ready}

module _ (K : System) (T : List Step) (n i : ℕ) where
  pub item-definition : (e : Expression) → slice_get K.definitions i ≡ Some e → item_formula K T n i ≡ definition_formula K T n (K.declared + i) e
  item-definition e is = ap (item_or_constraint K T n i) is

  pub item-constraint : (c : Constraint) → length K.definitions ≤ i → slice_get K.constraints (i - length K.definitions) ≡ Some c
      → item_formula K T n i ≡ constraint_formula T n c
  item-constraint c l is = ap (item_or_constraint K T n i) (slice_get_past K.definitions i l) ∙ ap (constraint_or_true T n) is

-- a definition of an accepted system can be opened
pub ready_at : (K : System) (j : ℕ) (e : Expression) → IsAccepted K → slice_get K.definitions j ≡ Some e → ExprFits K.words e × (deep e ≤ suc MAX_LEVELS)
ready_at K j e ok is = definition_ready K (K.declared + j) e (definition_is K (K.declared + j) e ok (sym (definitions-are K j) ∙ is))

-- ticks of a clock, counted in the steps themselves
pub clock_count-is : (T : List Step) (x : ℕ) → clock_count T x (length T) ≡ count_by (ticks_in x) T
clock_count-is T x = ap (λ U. count (map (ticks_in x) U)) (take-length T)
    ∙ is_count_by (λ U. count (map (ticks_in x) U)) (ticks_in x) refl (λ s U. count-cons (ticks_in x s) (map (ticks_in x) U)) T
  where
    count-cons : (t : Bool) (ts : List Bool) → count (t ∷ ts) ≡ cond t (1 + count ts) (count ts)
    count-cons true ts = omega arith
    count-cons false ts = refl
