-- The completion of the rows of a trace, one row more.
use Rattle.std.proofs.lemmas.Grind.{common_steps}
use Rattle.std.proofs.Common.{◌≡◌, ℕ, zero, suc, ◌+◌, ◌-◌, ◌<◌, ◌≤◌, List, [], ◌∷◌, ◌++◌, length, map, slice_get, true}
use Rattle.std.proofs.Common.{if◌then◌else◌, Option, Some, None, refl, sym, ap, ap₂, ◌∙◌, arith, length-append}
use Rattle.std.specs.List.{list_all}
use Rattle.std.proofs.Math.Seq.{take-length}
use Rattle.std.proofs.lemmas.List.{map-append, length-map, take-append-le}
use Rattle.std.proofs.lemmas.List.Folds.{list_all-append}
use Rattle.std.proofs.lemmas.Bool.{and_parts, and_from}
use Rattle.std.proofs.lemmas.Option.{slice_get_past}
use Rattle.ccsl_base.specs.Clocks.{ticks_in, is_ascending, are_below}
use Rattle.ccsl_base.specs.declared.rows.Row.{Row}
use Rattle.ccsl_formula.specs.Formula.{eval}
use Rattle.ccsl_kernel.specs.declared.constraint.Constraint.{Constraint}
use Rattle.ccsl_kernel.specs.Syntax.{Expression, System}
use Rattle.ccsl_kernel.specs.Accepted.{IsAccepted}
use Rattle.ccsl_kernel.specs.Ticks.{count}
use Rattle.ccsl_kernel.specs.Lives.{Step, step_at}
use Rattle.ccsl_kernel.specs.Meaning.{formula_at}
use Rattle.ccsl_kernel.specs.Items.{clock_count, relation_formula}
use Rattle.ccsl_kernel.specs.Runs.{ObeysDefinitions, holds_at, full_step, declared_part, is_declared}
use Rattle.ccsl_kernel.specs.Verdict.{completed_rows, is_violated}
use Rattle.ccsl_relate.specs.Watching.{are_sets}
use Rattle.ccsl_kernel.proofs.AcceptedParts.{accepted_guarded, accepted_scoped}
use Rattle.ccsl_kernel.proofs.Completion.{completion_obeys, completed-append, length-completed, declared-full}
use Rattle.ccsl_kernel.proofs.Definitions.{step_at-front, step_at-last, definitions-are}
use Rattle.ccsl_kernel.proofs.ItemCases.{item-definition, item-constraint}
use Rattle.ccsl_kernel.proofs.Quiet.{count-snoc}
use Rattle.ccsl_kernel.proofs.Sets.{below-ascending, below-below, ticks_in-below}

pub sets-snoc : (rows : List Row) (row : Row) → are_sets rows ≡ true → is_ascending row.ticks ≡ true → are_sets (rows ++ row ∷ []) ≡ true
sets-snoc rows row h r = grind (arith, common_steps, list_all-append)

some-within : {A : Type 0} (xs : List A) (i : ℕ) → i < length xs → slice_get xs i ≡ None → ⊥
some-within [] i l e = omega arith
some-within (x ∷ xs) zero l e = cc
some-within (x ∷ xs) (suc i) l e = some-within xs i (omega arith) e

pub one-set : (row : Row) → is_ascending row.ticks ≡ true → are_sets (row ∷ []) ≡ true
one-set row e = rw e refl

module _ (K : System) where
  abbrev X : List Row → List Step
  X rows = completed_rows K rows

  -- the step that a row completes
  abbrev pub next_step : List Row → Row → Step
  next_step rows row = full_step K (completed_rows K rows) (declared_part K row.ticks)

  pub X-more : (rows : List Row) (row : Row) → completed_rows K (rows ++ row ∷ []) ≡ completed_rows K rows ++ next_step rows row ∷ []
  X-more rows row = grind (arith, common_steps, map-append, completed-append)

  pub X-length : (rows : List Row) → length (completed_rows K rows) ≡ length rows
  X-length rows = let e = length-completed K (map (λ r. declared_part K r.ticks) rows) [] in omega (arith, e, length-map rows (λ r. declared_part K r.ticks))

  pub last-step : (rows : List Row) (row : Row) → step_at (completed_rows K (rows ++ row ∷ [])) (length rows) ≡ next_step rows row
  last-step rows row = ap₂ step_at (X-more rows row) (sym (X-length rows)) ∙ step_at-last (X rows) (next_step rows row)

  front-step : (rows : List Row) (row : Row) (n : ℕ) → n < length rows → step_at (X (rows ++ row ∷ [])) n ≡ step_at (X rows) n
  front-step rows row n l = ap (λ T. step_at T n) (X-more rows row) ∙ step_at-front (X rows) (next_step rows row) n (omega (arith, X-length rows))

  abbrev ticks_of : List Row → List Step
  ticks_of rows = map (λ row. row.ticks) rows

  ticks-more : (rows : List Row) (row : Row) → ticks_of (rows ++ row ∷ []) ≡ ticks_of rows ++ row.ticks ∷ []
  ticks-more rows row = map-append (λ r. r.ticks) rows (row ∷ [])

  pub last-row : (rows : List Row) (row : Row) → step_at (ticks_of (rows ++ row ∷ [])) (length rows) ≡ row.ticks
  last-row rows row = ap₂ step_at (ticks-more rows row) (sym (length-map rows (λ r. r.ticks))) ∙ step_at-last (ticks_of rows) row.ticks

  front-row : (rows : List Row) (row : Row) (n : ℕ) → n < length rows → step_at (ticks_of (rows ++ row ∷ [])) n ≡ step_at (ticks_of rows) n
  front-row rows row n l =
      ap (λ T. step_at T n) (ticks-more rows row) ∙ step_at-front (ticks_of rows) row.ticks n (omega (arith, length-map rows (λ r. r.ticks)))

  -- counts, one step more
  pub count-before : (T : List Step) (s : Step) (x n : ℕ) → n ≤ length T → clock_count (T ++ s ∷ []) x n ≡ clock_count T x n
  count-before T s x n u = ap (λ U. count (map (ticks_in x) U)) (take-append-le n T (s ∷ []) u)

  whole-count : (T : List Step) (x : ℕ) → clock_count T x (length T) ≡ count (map (ticks_in x) T)
  whole-count T x = ap (λ U. count (map (ticks_in x) U)) (take-length T)

  pub count-more : (T : List Step) (s : Step) (x : ℕ)
      → clock_count (T ++ s ∷ []) x (length (T ++ s ∷ [])) ≡ (if ticks_in x s then suc (clock_count T x (length T)) else clock_count T x (length T))
  count-more T s x = grind (arith, common_steps, whole-count, map-append, count-snoc)

  -- a declared clock ticks in the completed step as in the row
  pub declared-ticks : (T : List Step) (s : Step) (x : ℕ) → x < K.declared → ticks_in x (full_step K T (declared_part K s)) ≡ ticks_in x s
  declared-ticks T s x l =
      let f = full_step K T (declared_part K s) in
      sym (ticks_in-below K.declared x f l)
      ∙ ap (ticks_in x) (declared-full K T (declared_part K s) (below-below K.declared s))
      ∙ ticks_in-below K.declared x s l

  declared-sets : (rows : List Row) → are_sets rows ≡ true → list_all (is_declared K) (map (λ r. declared_part K r.ticks) rows) ≡ true
  declared-sets [] h = refl
  declared-sets (row ∷ rows) h =
      let w = and_parts (is_ascending row.ticks) (are_sets rows) h in
      and_from (is_declared K (declared_part K row.ticks)) (list_all (is_declared K) (map (λ r. declared_part K r.ticks) rows))
      (and_from (is_ascending (declared_part K row.ticks)) (are_below K.declared (declared_part K row.ticks)) (below-ascending K.declared row.ticks w.0)
      (below-below K.declared row.ticks)) (declared-sets rows w.1)

  module _ (ok : IsAccepted K) where
    -- A DEFINITION HOLDS at every step of the completion
    pub definition-holds : (rows : List Row) (n i : ℕ) → are_sets rows ≡ true → n < length rows → i < length K.definitions
        → holds_at K (completed_rows K rows) n i ≡ true
    definition-holds rows n i h l d = by-definition (slice_get K.definitions i) refl
      where
        obeys : ObeysDefinitions K (X rows)
        obeys = completion_obeys K (accepted_guarded K ok) (accepted_scoped K ok) (map (λ r. declared_part K r.ticks) rows) (declared-sets rows h)

        by-definition : (o : Option Expression) → slice_get K.definitions i ≡ o → holds_at K (X rows) n i ≡ true
        by-definition None e = absurd (some-within K.definitions i d e)
        by-definition (Some e) is =
            let here : ticks_in (K.declared + i) (step_at (X rows) n) ≡ eval (formula_at K (X rows) (K.declared + i) e [] 0 n) (step_at (X rows) n) =
            obeys (K.declared + i) e n (sym (definitions-are K i) ∙ is) (omega (arith, X-length rows)) in
            grind (arith, common_steps, here, item-definition K (X rows) n i e is)

    -- A CONSTRAINT at a step, by its counts before
    pub constraint-holds : (rows : List Row) (row : Row) (i : ℕ) (c : Constraint) → length K.definitions ≤ i
        → slice_get K.constraints (i - length K.definitions) ≡ Some c
        → holds_at K (completed_rows K (rows ++ row ∷ [])) (length rows) i
        ≡ eval (relation_formula c.kind c.left c.right (clock_count (completed_rows K rows) c.left (length (completed_rows K rows)))
        (clock_count (completed_rows K rows) c.right (length (completed_rows K rows)))) (next_step rows row)
    constraint-holds rows row i c l is = grind (arith, common_steps, X-length, X-more, count-before, item-constraint, last-step)

    constraint-front : (rows : List Row) (row : Row) (n i : ℕ) → n < length rows → length K.definitions ≤ i
        → holds_at K (X (rows ++ row ∷ [])) n i ≡ holds_at K (X rows) n i
    constraint-front rows row n i l d = grind (arith, common_steps, slice_get, X-length, X-more, count-before, item-constraint, front-step, slice_get_past)

    -- WHAT WAS VIOLATED STAYS SO, and what was not
    pub violated-front : (recorded : List ℕ) (rows : List Row) (row : Row) (n i : ℕ) → are_sets (rows ++ row ∷ []) ≡ true → are_sets rows ≡ true
        → n < length rows → is_violated K recorded (rows ++ row ∷ []) n i ≡ is_violated K recorded rows n i
    violated-front recorded rows row n i h' h l = grind (arith, common_steps, front-row, front-step, definition-holds, length-append, constraint-front)
