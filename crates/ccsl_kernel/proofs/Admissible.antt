-- The admissible sets after a run are the declared members of the steps that satisfy every item's formula.
use Rattle.std.proofs.Common.{⊎_elim, ◌≡◌, ◌≢◌, ℕ, ◌+◌, ◌-◌, ◌<◌, ◌≤◌, List, [], ◌∷◌, ◌++◌, length, map, true, ◌&&◌, Option, Some, None, slice_get, refl, sym}
use Rattle.std.proofs.Common.{ap, ap₂, ◌∙◌, subst, arith, length-append}
use Rattle.std.specs.List.{list_all}
use Rattle.std.proofs.lemmas.List.{take-append-le}
use Rattle.std.proofs.lemmas.List.Folds.{list_all-append}
use Rattle.std.proofs.lemmas.Bool.{cases_lt, and_parts, and_from}
use Rattle.ccsl_base.specs.Clocks.{ticks_in, is_ascending, are_below}
use Rattle.ccsl_formula.specs.Formula.{FIff, FVar, eval}
use Rattle.ccsl_kernel.specs.Syntax.{Expression, System, Constraint, item_count}
use Rattle.ccsl_kernel.specs.Ticks.{count}
use Rattle.ccsl_kernel.specs.Lives.{Step}
use Rattle.ccsl_kernel.specs.Items.{clock_count, relation_formula, constraint_or_true, item_or_constraint, item_formula}
use Rattle.ccsl_kernel.specs.Runs.{holds_at, IsRun, IsAdmissible, full_step, completed, declared_part, is_declared, is_named}
use Rattle.ccsl_kernel.specs.Laws.{ExtendsToStep}
use Rattle.ccsl_kernel.proofs.GuardedCalls.{IsGuarded}
use Rattle.ccsl_kernel.proofs.Scoped.{IsScoped}
use Rattle.ccsl_kernel.proofs.Sets.{below-ascending, below-below}
use Rattle.ccsl_kernel.proofs.Definitions.{step_at-front, step_at-last, definitions-are}
use Rattle.ccsl_kernel.proofs.Completion.{asked_before, completion_only, runs_obey, declared-full, declared-snoc, full_named, completed-append}

module _ (K : System) (ok : IsGuarded K) (scoped : IsScoped K) where
  -- A RUN of sets of named clocks is the completion of its declared part
  pub run_completed : (T : List Step) → IsRun K T → list_all (is_named K) T ≡ true → completed K (map (declared_part K) T) ≡ T
  run_completed T run named = completion_only K ok scoped T named (runs_obey K T run)

  -- one more step does not change the formulas of the items before it
  count_before : (T : List Step) (s : Step) (x n : ℕ) → n ≤ length T → clock_count (T ++ s ∷ []) x n ≡ clock_count T x n
  count_before T s x n u = ap (λ steps. count (map (ticks_in x) steps)) (take-append-le n T (s ∷ []) u)

  item_before : (T : List Step) (s : Step) (n i : ℕ) → n ≤ length T → item_formula K (T ++ s ∷ []) n i ≡ item_formula K T n i
  item_before T s n i u = on (slice_get K.definitions i) refl
    where
      constraint : (o : Option Constraint) → constraint_or_true (T ++ s ∷ []) n o ≡ constraint_or_true T n o
      constraint None = refl
      constraint (Some c) = ap₂ (relation_formula c.kind c.left c.right) (count_before T s c.left n u) (count_before T s c.right n u)

      on : (o : Option Expression) → slice_get K.definitions i ≡ o → item_or_constraint K (T ++ s ∷ []) n i o ≡ item_or_constraint K T n i o
      on (Some e) at = ap (FIff (FVar (K.declared + i))) (asked_before K ok scoped T s (K.declared + i) e n (sym (definitions-are K i) ∙ at) u)
      on None at = constraint (slice_get K.constraints (i - length K.definitions))

  holds_before : (T : List Step) (s : Step) (n i : ℕ) → n < length T → holds_at K (T ++ s ∷ []) n i ≡ holds_at K T n i
  holds_before T s n i l = ap₂ eval (item_before T s n i (omega arith)) (step_at-front T s n l)

  holds_last : (T : List Step) (s : Step) (i : ℕ) → holds_at K (T ++ s ∷ []) (length T) i ≡ eval (item_formula K T (length T) i) s
  holds_last T s i = ap₂ eval (item_before T s (length T) i (omega arith)) (step_at-last T s)

  -- a run with one more step that satisfies every item's formula is a run
  run_more : (T : List Step) (s : Step) → IsRun K T → ((i : ℕ) → i < item_count K → eval (item_formula K T (length T) i) s ≡ true) → IsRun K (T ++ s ∷ [])
  run_more T s run items n i l j =
      ⊎_elim
      (λ (l' : n < length T). holds_before T s n i l' ∙ run n i l' j)
      (λ (l' : length T ≤ n).
      let at : n ≡ length T = omega (arith, length-append T (s ∷ [])) in
      ap (λ k. holds_at K (T ++ s ∷ []) k i) at ∙ holds_last T s i ∙ items i j)
      (cases_lt n (length T))

  named_more : (T : List Step) (s : Step) → list_all (is_named K) T ≡ true → is_named K s ≡ true → list_all (is_named K) (T ++ s ∷ []) ≡ true
  named_more T s t h = list_all-append (is_named K) T (s ∷ [])
      ∙ and_from (list_all (is_named K) T) (is_named K s && true) t (and_from (is_named K s) true h refl)

  module _ (T : List Step) (run : IsRun K T) (named : list_all (is_named K) T ≡ true) (s : Step) where
    -- the run and one more set of declared ticks, completed
    completed_more : completed K (map (declared_part K) T ++ s ∷ []) ≡ T ++ full_step K T s ∷ []
    completed_more = completed-append K (map (declared_part K) T) (s ∷ []) [] ∙ ap (λ U. U ++ full_step K U s ∷ []) (run_completed T run named)

    pub admissible_extends : IsAdmissible K T s → (s ≢ []) × ExtendsToStep K T s
    admissible_extends h =
        let below = (and_parts (is_ascending s) (are_below K.declared s) h.declared).1 in
        let longer = subst (IsRun K) completed_more h.run in (
          h.nonempty,
          record {
            step = full_step K T s;
            named = full_named K T s h.declared;
            items = λ i j. sym (holds_last T (full_step K T s) i) ∙ longer (length T) i (omega (arith, length-append T (full_step K T s ∷ []))) j;
            declared = declared-full K T s below;
          },
        )

    declared_named : (t : Step) → is_named K t ≡ true → is_declared K (declared_part K t) ≡ true
    declared_named t h =
        and_from (is_ascending (declared_part K t)) (are_below K.declared (declared_part K t))
        (below-ascending K.declared t (and_parts (is_ascending t) (are_below (K.declared + length K.definitions) t) h).0) (below-below K.declared t)

    pub extended_admissible : s ≢ [] → ExtendsToStep K T s → IsAdmissible K T s
    extended_admissible some e =
        let longer = run_more T e.step run e.items in
        let whole : completed K (map (declared_part K) T ++ s ∷ []) ≡ T ++ e.step ∷ [] =
        ap (λ d. completed K (map (declared_part K) T ++ d ∷ [])) (sym e.declared)
        ∙ ap (completed K) (sym (declared-snoc K T e.step))
        ∙ run_completed (T ++ e.step ∷ []) longer (named_more T e.step named e.named) in
        record {
          nonempty = some;
          declared = subst (λ d. is_declared K d ≡ true) e.declared (declared_named e.step e.named);
          run = subst (IsRun K) (sym whole) longer;
        }
