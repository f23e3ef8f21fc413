-- A set of declared clocks is admissible exactly where no constraint fails: the definitions hold in a full step.
use Rattle.std.proofs.Common.{⊎_elim, ◌≡◌, ◌≢◌, ℕ, ◌+◌, ◌-◌, ◌<◌, ◌≤◌, List, [], length, Bool, true, false, not, Option, Some, None, slice_get, refl, sym, ap}
use Rattle.std.proofs.Common.{◌∙◌, arith}
use Rattle.std.proofs.lemmas.Bool.{cases_lt, and_parts, not-false}
use Rattle.std.proofs.lemmas.Option.{slice_get_cases}
use Rattle.ccsl_base.specs.Clocks.{is_ascending, are_below}
use Rattle.ccsl_formula.specs.Formula.{eval, same}
use Rattle.ccsl_kernel.specs.Syntax.{Expression, System, item_count}
use Rattle.ccsl_kernel.specs.Lives.{Step}
use Rattle.ccsl_kernel.specs.Items.{item_formula}
use Rattle.ccsl_kernel.specs.Accepted.{IsAccepted}
use Rattle.ccsl_kernel.specs.Runs.{IsAdmissible, full_step, is_declared}
use Rattle.ccsl_kernel.proofs.AcceptedParts.{accepted_guarded, accepted_scoped}
use Rattle.ccsl_kernel.proofs.Admissible.{extended_admissible}
use Rattle.ccsl_kernel.proofs.Completion.{full_obeys, full_named, declared-full}
use Rattle.ccsl_kernel.proofs.Definitions.{definitions-are}
use Rattle.ccsl_kernel.proofs.FirstViolation.{find-nowhere, find-first}
use Rattle.ccsl_kernel.proofs.ItemCases.{item-definition}
use Rattle.ccsl_kernel.proofs.Steps.{find-none}
use Rattle.ccsl_items.specs.Laws.{IsNamedRun}
use Rattle.ccsl_items.proofs.Solutions.{admissible_solution, solution_items, solution_full}
use Rattle.ccsl_possible.specs.Possible.{fails, first_failing}
use Rattle.ccsl_formula.proofs.Same.{same-if}

module _ (K : System) (ok : IsAccepted K) (T : List Step) (r : IsNamedRun K T) (s : Step) (some : s ≢ []) (d : is_declared K s ≡ true) where
  below_declared : are_below K.declared s ≡ true
  below_declared = (and_parts (is_ascending s) (are_below K.declared s) d).1

  definition-holds : (i : ℕ) → i < length K.definitions → eval (item_formula K T (length T) i) (full_step K T s) ≡ true
  definition-holds i l = on (slice_get K.definitions i) refl
    where
      on : (o : Option Expression) → slice_get K.definitions i ≡ o → eval (item_formula K T (length T) i) (full_step K T s) ≡ true
      on (Some e) is =
          ap (λ f. eval f (full_step K T s)) (item-definition K T (length T) i e is)
          ∙ same-if _ _ (full_obeys K (accepted_guarded K ok) (accepted_scoped K ok) T s below_declared (K.declared + i) e (sym (definitions-are K i) ∙ is))
      on None is = ⊎_elim (λ here. let bad = sym is ∙ here.2 in absurd (cc)) (λ past. absurd (omega (arith, past.0))) (slice_get_cases K.definitions i).1

  constraint-holds : first_failing K T s ≡ None → (i : ℕ) → length K.definitions ≤ i → i < item_count K →
      eval (item_formula K T (length T) i) (full_step K T s) ≡ true
  constraint-holds h i u l =
      let j = i - length K.definitions in
      let at : length K.definitions + j ≡ i = omega arith in
      let none = find-none (fails K T s) 0 (length K.constraints) h j (omega arith) (omega arith) in
      ap (λ k. eval (item_formula K T (length T) k) (full_step K T s)) (sym at)
      ∙ not-false (eval (item_formula K T (length T) (length K.definitions + j)) (full_step K T s)) none

  pub unforbidden-admissible : first_failing K T s ≡ None → IsAdmissible K T s
  unforbidden-admissible h =
      extended_admissible K (accepted_guarded K ok) (accepted_scoped K ok) T r.run r.named s some
      (record {
        step = full_step K T s;
        named = full_named K T s d;
        items = λ i l. ⊎_elim (λ m. definition-holds i m) (λ m. constraint-holds h i m l) (cases_lt i (length K.definitions));
        declared = declared-full K T s below_declared;
      })

  pub admissible-unforbidden : IsAdmissible K T s → first_failing K T s ≡ None
  admissible-unforbidden a =
      let q = admissible_solution K ok T r s a in
      let full : full_step K T s ≡ q.0 = ap (full_step K T) (sym q.2) ∙ (solution_full K ok T r q.0 q.1).declared in
      find-nowhere (fails K T s) (length K.constraints)
      (λ j l.
      ap (λ u. not (eval (item_formula K T (length T) (length K.definitions + j)) u)) full
      ∙ ap not (solution_items K ok T r q.0 q.1 (length K.definitions + j) (omega arith)))

-- THE ITEMS IN TURN, the constraints behind the definitions
module _ (K : System) (T : List Step) (s : Step) where
  -- no constraint before item number i fails
  abbrev pub NoneBefore : ℕ → Type 0
  NoneBefore i = (j : ℕ) → length K.definitions + j < i → fails K T s j ≡ false

  -- whether an item fails is whether the constraint of its place does
  pub item-fails : (H : System) (i : ℕ) (step : Step) (b : Bool) → H ≡ K → step ≡ full_step H T s → b ≡ not (eval (item_formula H T (length T) i) step) →
      length K.definitions ≤ i → b ≡ fails K T s (i - length K.definitions)
  item-fails H i step b same full is u =
      is
      ∙ ap (λ t. not (eval (item_formula H T (length T) i) t)) full
      ∙ ap (λ L. not (eval (item_formula L T (length T) i) (full_step L T s))) same
      ∙ ap (λ k. not (eval (item_formula K T (length T) k) (full_step K T s))) (omega arith)

  pub none-first : NoneBefore (length K.definitions)
  none-first j l = absurd (omega arith)

  pub none-more : (i : ℕ) → length K.definitions ≤ i → NoneBefore i → fails K T s (i - length K.definitions) ≡ false → NoneBefore (i + 1)
  none-more i u none here j l =
      ⊎_elim
      (λ (m : length K.definitions + j < i). none j m)
      (λ (m : i ≤ length K.definitions + j). ap (fails K T s) (omega arith) ∙ here)
      (cases_lt (length K.definitions + j) i)

  pub first-here : (i : ℕ) → length K.definitions ≤ i → i < item_count K → NoneBefore i → fails K T s (i - length K.definitions) ≡ true →
      Some (i - length K.definitions) ≡ first_failing K T s
  first-here i u l none here =
      sym (find-first (fails K T s) (length K.constraints) (i - length K.definitions) (omega arith) here (λ j m. none j (omega arith)))

  pub none-here : (i : ℕ) → item_count K ≤ i → NoneBefore i → None ≡ first_failing K T s
  none-here i u none = sym (find-nowhere (fails K T s) (length K.constraints) (λ j l. none j (omega arith)))
