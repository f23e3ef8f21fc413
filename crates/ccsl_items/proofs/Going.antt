-- A run goes on by a step that satisfies every item's formula.
use Rattle.std.proofs.Common.{⊎_elim, ◌≡◌, ℕ, ◌+◌, ◌-◌, ◌<◌, ◌≤◌, List, [], ◌∷◌, ◌++◌, length, map, true, ◌&&◌, Option, Some, None, slice_get, refl, sym, ap}
use Rattle.std.proofs.Common.{ap₂, ◌∙◌, arith, length-append}
use Rattle.std.specs.List.{list_all}
use Rattle.std.proofs.lemmas.List.{take-append-le}
use Rattle.std.proofs.lemmas.List.Folds.{list_all-append}
use Rattle.std.proofs.lemmas.Bool.{cases_lt, and_from}
use Rattle.ccsl_base.specs.Clocks.{ticks_in}
use Rattle.ccsl_formula.specs.Formula.{FIff, FVar, eval}
use Rattle.ccsl_kernel.specs.declared.constraint.Constraint.{Constraint}
use Rattle.ccsl_kernel.specs.Syntax.{Expression, System, item_count}
use Rattle.ccsl_kernel.specs.Ticks.{count}
use Rattle.ccsl_kernel.specs.Lives.{Step}
use Rattle.ccsl_kernel.specs.Items.{clock_count, relation_formula, constraint_or_true, item_or_constraint, item_formula}
use Rattle.ccsl_kernel.specs.Accepted.{IsAccepted}
use Rattle.ccsl_kernel.specs.Runs.{holds_at, IsRun, is_named}
use Rattle.ccsl_kernel.proofs.AcceptedParts.{accepted_guarded, accepted_scoped}
use Rattle.ccsl_kernel.proofs.Definitions.{step_at-front, step_at-last, definitions-are}
use Rattle.ccsl_kernel.proofs.Completion.{asked_before}

module _ (K : System) (ok : IsAccepted K) (T : List Step) (s : Step) where
  -- one more step does not change the formulas of the items before it
  count_before : (x n : ℕ) → n ≤ length T → clock_count (T ++ s ∷ []) x n ≡ clock_count T x n
  count_before x n u = ap (λ steps. count (map (ticks_in x) steps)) (take-append-le n T (s ∷ []) u)

  pub item_before : (n i : ℕ) → n ≤ length T → item_formula K (T ++ s ∷ []) n i ≡ item_formula K T n i
  item_before n i u = on (slice_get K.definitions i) refl
    where
      constraint : (o : Option Constraint) → constraint_or_true (T ++ s ∷ []) n o ≡ constraint_or_true T n o
      constraint None = refl
      constraint (Some c) = ap₂ (relation_formula c.kind c.left c.right) (count_before c.left n u) (count_before c.right n u)

      on : (o : Option Expression) → slice_get K.definitions i ≡ o → item_or_constraint K (T ++ s ∷ []) n i o ≡ item_or_constraint K T n i o
      on (Some e) at =
          ap (FIff (FVar (K.declared + i)))
          (asked_before K (accepted_guarded K ok) (accepted_scoped K ok) T s (K.declared + i) e n (sym (definitions-are K i) ∙ at) u)
      on None at = constraint (slice_get K.constraints (i - length K.definitions))

  holds_before : (n i : ℕ) → n < length T → holds_at K (T ++ s ∷ []) n i ≡ holds_at K T n i
  holds_before n i l = ap₂ eval (item_before n i (omega arith)) (step_at-front T s n l)

  pub holds_last : (i : ℕ) → holds_at K (T ++ s ∷ []) (length T) i ≡ eval (item_formula K T (length T) i) s
  holds_last i = ap₂ eval (item_before (length T) i (omega arith)) (step_at-last T s)

  pub run_more : IsRun K T → ((i : ℕ) → i < item_count K → eval (item_formula K T (length T) i) s ≡ true) → IsRun K (T ++ s ∷ [])
  run_more run items n i l j =
      ⊎_elim
      (λ (l' : n < length T). holds_before n i l' ∙ run n i l' j)
      (λ (l' : length T ≤ n).
      let at : n ≡ length T = omega (arith, length-append T (s ∷ [])) in
      ap (λ k. holds_at K (T ++ s ∷ []) k i) at ∙ holds_last i ∙ items i j)
      (cases_lt n (length T))

pub named_more : (K : System) (T : List Step) (s : Step) → list_all (is_named K) T ≡ true → is_named K s ≡ true → list_all (is_named K) (T ++ s ∷ []) ≡ true
named_more K T s t h = list_all-append (is_named K) T (s ∷ [])
    ∙ and_from (list_all (is_named K) T) (is_named K s && true) t (and_from (is_named K s) true h refl)
