-- The completion of declared ticks obeys the definitions, has those declared ticks, and is the only such list.
use Rattle.std.proofs.Common.{⊎_elim, ◌≡◌, ℕ, zero, suc, ◌+◌, ◌-◌, ◌<◌, ◌≤◌, List, [], ◌∷◌, ◌++◌, length, map, Bool, true, false, ◌||◌, ◌&&◌, Some, None}
use Rattle.std.proofs.Common.{slice_get, eq-eqb, lt-ltb, refl, sym, ap, ap₂, ◌∙◌, subst, arith, append-nil, append_assoc, length-append, if◌then◌else◌}
use Rattle.std.specs.List.{list_all}
use Rattle.std.proofs.lemmas.List.Folds.{list_all-append}
use Rattle.std.proofs.lemmas.Bool.{cases_lt, ne_eqb, and_parts, and_from}
use Rattle.std.proofs.lemmas.Option.{slice_get_within}
use Rattle.std.proofs.Math.ListN.{get_or-append}
use Rattle.std.proofs.Math.Seq.{get_or-append_seam}
use Rattle.ccsl_base.specs.Clocks.{ticks_in, with_clock, is_ascending, are_below}
use Rattle.ccsl_formula.specs.Formula.{Formula, eval, same}
use Rattle.ccsl_kernel.specs.Syntax.{Expression, System, item_count, definition_of}
use Rattle.ccsl_kernel.specs.Lives.{Step, step_at}
use Rattle.ccsl_kernel.specs.Table.{Now}
use Rattle.ccsl_kernel.specs.Meaning.{dead_below, formula_at}
use Rattle.ccsl_kernel.specs.Items.{item_or_constraint}
use Rattle.ccsl_kernel.specs.Runs.{IsRun, ObeysDefinitions, derived_from, full_step, completed_after, completed, declared_part, is_declared, is_named}
use Rattle.ccsl_kernel.proofs.Scoped.{IsScoped}
use Rattle.ccsl_kernel.proofs.GuardedCalls.{IsGuarded}
use Rattle.ccsl_base.proofs.Ascending.{with_clock-last}
use Rattle.ccsl_kernel.proofs.Sets.{NoneFrom, NoneFrom-are_below, below, ticks_in-with_clock, below-with_clock, below-all, below-suc, ticks_in-below}
use Rattle.ccsl_kernel.proofs.Sets.{ascending-last, are_below-last, are_below-more}
use Rattle.ccsl_kernel.proofs.Scope.{ReadsOnly, eval_same, reads_below}
use Rattle.ccsl_kernel.proofs.TableHolds.{first_steps_matter}
use Rattle.ccsl_kernel.proofs.Definitions.{step_at-front, step_at-last, definitions-are, definition_allowed, dead_below-same}

-- one more clock changes no other one
other_clock : (t : Bool) (s : Step) (x y : ℕ) → (y ≡ x → ⊥) → ticks_in y (if t then with_clock x s else s) ≡ ticks_in y s
other_clock false s x y ne = refl
other_clock true s x y ne = ticks_in-with_clock y x s ∙ ap (λ t. t || ticks_in y s) (ne_eqb y x ne)

module _ (K : System) (T : List Step) where
  -- the formula of the definition of clock x after T
  abbrev asked : ℕ → Expression → Formula
  asked x e = formula_at K T x e [] 0 (length T)

  abbrev next : ℕ → Expression → Step → Step
  next x e s = if eval (asked x e) s then with_clock x s else s

  -- clocks below those that are derived stay as they are
  derived_keeps : (es : List Expression) (x : ℕ) (s : Step) (y : ℕ) → y < x → ticks_in y (derived_from K T es x s) ≡ ticks_in y s
  derived_keeps [] x s y l = refl
  derived_keeps (e ∷ es) x s y l = derived_keeps es (suc x) (next x e s) y (omega arith) ∙ other_clock (eval (asked x e) s) s x y (λ e. omega arith)

  derived_ticks : (es : List Expression) (x : ℕ) (s : Step) → NoneFrom x s
      → ((j : ℕ) (e : Expression) → slice_get es j ≡ Some e → ReadsOnly (x + j) (asked (x + j) e)) →
      (j : ℕ) (e : Expression) → slice_get es j ≡ Some e → ticks_in (x + j) (derived_from K T es x s) ≡ eval (asked (x + j) e) (derived_from K T es x s)
  derived_ticks [] x s fresh reads j e h = let z : ⊥ = cc in absurd z
  derived_ticks (e' ∷ es) x s fresh reads zero e h =
      let same : e' ≡ e = cc in
      let at : x + 0 ≡ x = omega arith in
      ap (λ k. ticks_in k (derived_from K T es (suc x) (next x e' s))) at
      ∙ derived_keeps es (suc x) (next x e' s) x (omega arith)
      ∙ now (eval (asked x e') s)
      ∙ eval_same x (asked x e') s (derived_from K T es (suc x) (next x e' s)) (subst (λ k. ReadsOnly k (asked k e')) at (reads 0 e' refl))
      (λ y l. sym (derived_keeps es (suc x) (next x e' s) y (omega arith) ∙ other_clock (eval (asked x e') s) s x y (λ e. omega arith)))
      ∙ ap₂ (λ k e. eval (asked k e) (derived_from K T es (suc x) (next x e' s))) (sym at) same
    where
      now : (b : Bool) → ticks_in x (if b then with_clock x s else s) ≡ b
      now true = ticks_in-with_clock x x s ∙ ap (λ t. t || ticks_in x s) (eq-eqb x x refl)
      now false = fresh x (omega arith)
  derived_ticks (e' ∷ es) x s fresh reads (suc j) e h =
      let at : x + suc j ≡ suc x + j = omega arith in
      ap (λ k. ticks_in k (derived_from K T es (suc x) (next x e' s))) at
      ∙ derived_ticks es (suc x) (next x e' s) (λ y l. other_clock (eval (asked x e') s) s x y (λ e. omega arith) ∙ fresh y (omega arith))
      (λ i d h. subst (λ k. ReadsOnly k (asked k d)) (let at : x + suc i ≡ suc x + i = omega arith in at) (reads (suc i) d h)) j e h
      ∙ ap (λ k. eval (asked k e) (derived_from K T es (suc x) (next x e' s))) (sym at)

  -- what is derived is a set of clocks, with the declared ones that it began with
  derived_set : (es : List Expression) (x : ℕ) (s : Step) → is_ascending s ≡ true → are_below x s ≡ true →
      (is_ascending (derived_from K T es x s) ≡ true) × (are_below (x + length es) (derived_from K T es x s) ≡ true)
  derived_set [] x s h b = (h, subst (λ k. are_below k s ≡ true) (omega arith) b)
  derived_set (e ∷ es) x s h b =
      let w = one (eval (asked x e) s) in
      let r = derived_set es (suc x) (next x e s) w.0 w.1 in
      (r.0, subst (λ k. are_below k (derived_from K T es (suc x) (next x e s)) ≡ true) (omega arith) r.1)
    where
      one : (t : Bool) → (is_ascending (if t then with_clock x s else s) ≡ true) × (are_below (suc x) (if t then with_clock x s else s) ≡ true)
      one true = (ap is_ascending (with_clock-last x s b) ∙ ascending-last x s h b, ap (are_below (suc x)) (with_clock-last x s b) ∙ are_below-last x s b)
      one false = (h, are_below-more x (suc x) s (omega arith) b)

  derived_declared : (d : ℕ) (es : List Expression) (x : ℕ) (s : Step) → d ≤ x → below d (derived_from K T es x s) ≡ below d s
  derived_declared d [] x s l = refl
  derived_declared d (e ∷ es) x s l = derived_declared d es (suc x) (next x e s) (omega arith) ∙ one (eval (asked x e) s)
    where
      one : (t : Bool) → below d (if t then with_clock x s else s) ≡ below d s
      one true = below-with_clock d x s l
      one false = refl

  -- a step that ticks as the definitions say is derived from its declared part, clock by clock
  derived_is : (es : List Expression) (x : ℕ) (s : Step) → is_ascending s ≡ true
      → ((j : ℕ) (e : Expression) → slice_get es j ≡ Some e → ReadsOnly (x + j) (asked (x + j) e)) →
      ((j : ℕ) (e : Expression) → slice_get es j ≡ Some e → ticks_in (x + j) s ≡ eval (asked (x + j) e) s)
      → derived_from K T es x (below x s) ≡ below (x + length es) s
  derived_is [] x s h reads obeys = ap (λ k. below k s) (omega arith)
  derived_is (e ∷ es) x s h reads obeys =
      let at : x + 0 ≡ x = omega arith in
      ap (λ t. derived_from K T es (suc x) (if t then with_clock x (below x s) else below x s))
      (eval_same x (asked x e) (below x s) s (subst (λ k. ReadsOnly k (asked k e)) at (reads 0 e refl)) (λ y l. ticks_in-below x y s l)
      ∙ sym (subst (λ k. ticks_in k s ≡ eval (asked k e) s) at (obeys 0 e refl)))
      ∙ ap (derived_from K T es (suc x)) (sym (below-suc x s h))
      ∙ derived_is es (suc x) s h
      (λ i d h. subst (λ k. ReadsOnly k (asked k d)) (let at : x + suc i ≡ suc x + i = omega arith in at) (reads (suc i) d h))
      (λ i d h. subst (λ k. ticks_in k s ≡ eval (asked k d) s) (let at : x + suc i ≡ suc x + i = omega arith in at) (obeys (suc i) d h))
      ∙ ap (λ k. below k s) (omega arith)

-- a defined clock is not below the declared ones
pub past_declared : (K : System) (x : ℕ) (e : Expression) → definition_of K x ≡ Some e → K.declared ≤ x
past_declared K x e is =
    ⊎_elim
    (λ (l : x < K.declared). let z : ⊥ = none (ap (λ t. if t then None else slice_get K.definitions (x - K.declared)) (lt-ltb x K.declared l)) is in absurd z)
    (λ l. l)
    (cases_lt x K.declared)
  where
    none : definition_of K x ≡ None → definition_of K x ≡ Some e → ⊥
    none a b = cc

module _ (K : System) (ok : IsGuarded K) (scoped : IsScoped K) where
  reads_at : (T : List Step) (x : ℕ) (e : Expression) → definition_of K x ≡ Some e → (n : ℕ) → n ≤ length T → ReadsOnly x (formula_at K T x e [] 0 n)
  reads_at T x e is n u = reads_below x K T (dead_below K T x) ok.bodies scoped.bodies e [] 0 (definition_allowed K ok x e is) (omega arith)
      (scoped.definitions x e is) tt n (omega arith) u

  abbrev defined_at : (j : ℕ) (e : Expression) → slice_get K.definitions j ≡ Some e → definition_of K (K.declared + j) ≡ Some e
  defined_at j e h = sym (definitions-are K j) ∙ h

  length-snoc : (T : List Step) (s : Step) → length (T ++ s ∷ []) ≡ suc (length T)
  length-snoc T s = omega (arith, length-append T (s ∷ []))

  -- one more step does not change what was asked before
  pub asked_before : (T : List Step) (s : Step) (x : ℕ) (e : Expression) (n : ℕ) → definition_of K x ≡ Some e → n ≤ length T →
      formula_at K (T ++ s ∷ []) x e [] 0 n ≡ formula_at K T x e [] 0 n
  asked_before T s x e n is u =
      let front : (i : ℕ) → i < n → step_at (T ++ s ∷ []) i ≡ step_at T i = λ i l. step_at-front T s i (omega arith) in
      let u' : n ≤ length (T ++ s ∷ []) = omega (arith, length-snoc T s) in
      ap (λ (now : Now). now.formula)
      (first_steps_matter K (T ++ s ∷ []) T (dead_below K (T ++ s ∷ []) x) (dead_below K T x) ok.bodies e [] 0 n (definition_allowed K ok x e is) (omega arith)
      u' u front
      (λ i y l. dead_below-same K ok (T ++ s ∷ []) T n u' u front x i y l))

  obeys-snoc : (T : List Step) (s : Step) → ObeysDefinitions K T →
      ((x : ℕ) (e : Expression) → definition_of K x ≡ Some e → ticks_in x s ≡ eval (formula_at K T x e [] 0 (length T)) s) → ObeysDefinitions K (T ++ s ∷ [])
  obeys-snoc T s obeys here x e n is u =
      ⊎_elim
      (λ (l : n < length T).
      ap (ticks_in x) (step_at-front T s n l) ∙ obeys x e n is l
      ∙ sym (ap₂ eval (asked_before T s x e n is (omega arith)) (step_at-front T s n l)))
      (λ (l : length T ≤ n).
      let at : n ≡ length T = omega (arith, length-snoc T s) in
      let last : step_at (T ++ s ∷ []) n ≡ s = ap (step_at (T ++ s ∷ [])) at ∙ step_at-last T s in
      ap (ticks_in x) last ∙ here x e is
      ∙ sym (ap₂ eval (ap (formula_at K (T ++ s ∷ []) x e [] 0) at ∙ asked_before T s x e (length T) is (omega arith)) last))
      (cases_lt n (length T))

  -- by the place of a definition
  by_place : (P : ℕ → Expression → Type 0) → ((j : ℕ) (e : Expression) → slice_get K.definitions j ≡ Some e → P (K.declared + j) e) → (x : ℕ) (e : Expression)
      → definition_of K x ≡ Some e → P x e
  by_place P each x e is =
      let l = past_declared K x e is in
      let at : K.declared + (x - K.declared) ≡ x = omega arith in
      subst (λ k. P k e) at (each (x - K.declared) e (definitions-are K (x - K.declared) ∙ ap (definition_of K) at ∙ is))

  pub full_obeys : (T : List Step) (s : Step) → are_below K.declared s ≡ true → (x : ℕ) (e : Expression) → definition_of K x ≡ Some e →
      ticks_in x (full_step K T s) ≡ eval (formula_at K T x e [] 0 (length T)) (full_step K T s)
  full_obeys T s b =
      by_place (λ x e. ticks_in x (full_step K T s) ≡ eval (formula_at K T x e [] 0 (length T)) (full_step K T s))
      (derived_ticks K T K.definitions K.declared s (NoneFrom-are_below K.declared s b)
      (λ j e h. reads_at T (K.declared + j) e (defined_at j e h) (length T) (omega arith)))

  -- THE COMPLETION OBEYS THE DEFINITIONS
  completed_obeys : (R T : List Step) → list_all (is_declared K) R ≡ true → ObeysDefinitions K T → ObeysDefinitions K (completed_after K T R)
  completed_obeys [] T h obeys = obeys
  completed_obeys (s ∷ R) T h obeys =
      let w = and_parts (is_declared K s) (list_all (is_declared K) R) h in
      let v = and_parts (is_ascending s) (are_below K.declared s) w.0 in
      completed_obeys R (T ++ full_step K T s ∷ []) w.1 (obeys-snoc T (full_step K T s) obeys (full_obeys T s v.1))

  pub completion_obeys : (R : List Step) → list_all (is_declared K) R ≡ true → ObeysDefinitions K (completed K R)
  completion_obeys R h = completed_obeys R [] h (λ x e n is u. absurd (omega arith))

  -- AND IT IS THE ONLY ONE. A step of a list that obeys the definitions is the full step of its declared part
  full_is : (T : List Step) (s : Step) → is_ascending s ≡ true → are_below (K.declared + length K.definitions) s ≡ true →
      ((x : ℕ) (e : Expression) → definition_of K x ≡ Some e → ticks_in x s ≡ eval (formula_at K T x e [] 0 (length T)) s)
      → full_step K T (declared_part K s) ≡ s
  full_is T s h b obeys =
      derived_is K T K.definitions K.declared s h (λ j e i. reads_at T (K.declared + j) e (defined_at j e i) (length T) (omega arith))
      (λ j e i. obeys (K.declared + j) e (defined_at j e i))
      ∙ below-all (K.declared + length K.definitions) s b

  -- what obeys the definitions obeyed them before its later steps
  obeys_front : (T : List Step) (s : Step) (U : List Step) → ObeysDefinitions K (T ++ s ∷ U) → (x : ℕ) (e : Expression) → definition_of K x ≡ Some e →
      ticks_in x s ≡ eval (formula_at K T x e [] 0 (length T)) s
  obeys_front T s U obeys x e is =
      let longer : length T < length (T ++ s ∷ U) = omega (arith, length-append T (s ∷ U)) in
      let here : step_at (T ++ s ∷ U) (length T) ≡ s = get_or-append_seam T s U [] in
      let front : (i : ℕ) → i < length T → step_at (T ++ s ∷ U) i ≡ step_at T i = λ i l. get_or-append T (s ∷ U) [] i l in
      ap (ticks_in x) (sym here) ∙ obeys x e (length T) is longer
      ∙ ap₂ eval
      (ap (λ (now : Now). now.formula)
      (first_steps_matter K (T ++ s ∷ U) T (dead_below K (T ++ s ∷ U) x) (dead_below K T x) ok.bodies e [] 0 (length T) (definition_allowed K ok x e is)
      (omega arith) (omega (arith, longer)) (omega arith) front
      (λ i y l. dead_below-same K ok (T ++ s ∷ U) T (length T) (omega (arith, longer)) (omega arith) front x i y l)))
      here

  rebuilt : (U T : List Step) → list_all (is_named K) U ≡ true → ObeysDefinitions K (T ++ U) → completed_after K T (map (declared_part K) U) ≡ T ++ U
  rebuilt [] T h obeys = sym (append-nil T)
  rebuilt (s ∷ U) T h obeys =
      let w = and_parts (is_named K s) (list_all (is_named K) U) h in
      let v = and_parts (is_ascending s) (are_below (K.declared + length K.definitions) s) w.0 in
      ap (λ f. completed_after K (T ++ f ∷ []) (map (declared_part K) U)) (full_is T s v.0 v.1 (obeys_front T s U obeys))
      ∙ rebuilt U (T ++ s ∷ []) w.1 (subst (ObeysDefinitions K) (sym (append_assoc T (s ∷ []) U)) obeys)
      ∙ append_assoc T (s ∷ []) U

  -- A LIST THAT OBEYS THE DEFINITIONS IS THE COMPLETION OF ITS DECLARED PART
  pub completion_only : (T : List Step) → list_all (is_named K) T ≡ true → ObeysDefinitions K T → completed K (map (declared_part K) T) ≡ T
  completion_only T h obeys = rebuilt T [] h obeys

module _ (K : System) where
  pub declared-full : (T : List Step) (s : Step) → are_below K.declared s ≡ true → declared_part K (full_step K T s) ≡ s
  declared-full T s b = derived_declared K T K.declared K.definitions K.declared s (omega arith) ∙ below-all K.declared s b

  pub declared-snoc : (T : List Step) (s : Step) → map (declared_part K) (T ++ s ∷ []) ≡ map (declared_part K) T ++ declared_part K s ∷ []
  declared-snoc [] s = refl
  declared-snoc (t ∷ T) s = ap (λ xs. declared_part K t ∷ xs) (declared-snoc T s)

  -- THE COMPLETION HAS THE DECLARED TICKS THAT IT IS MADE FROM
  declared-after : (R T : List Step) → list_all (is_declared K) R ≡ true → map (declared_part K) (completed_after K T R) ≡ map (declared_part K) T ++ R
  declared-after [] T h = sym (append-nil (map (declared_part K) T))
  declared-after (s ∷ R) T h =
      let w = and_parts (is_declared K s) (list_all (is_declared K) R) h in
      let v = and_parts (is_ascending s) (are_below K.declared s) w.0 in
      declared-after R (T ++ full_step K T s ∷ []) w.1
      ∙ ap (λ xs. xs ++ R) (declared-snoc T (full_step K T s) ∙ ap (λ d. map (declared_part K) T ++ d ∷ []) (declared-full T s v.1))
      ∙ append_assoc (map (declared_part K) T) (s ∷ []) R

  pub declared-completed : (R : List Step) → list_all (is_declared K) R ≡ true → map (declared_part K) (completed K R) ≡ R
  declared-completed R h = declared-after R [] h

  -- its steps are sets of named clocks
  pub full_named : (T : List Step) (s : Step) → is_declared K s ≡ true → is_named K (full_step K T s) ≡ true
  full_named T s h =
      let v = and_parts (is_ascending s) (are_below K.declared s) h in
      let r = derived_set K T K.definitions K.declared s v.0 v.1 in
      and_from (is_ascending (full_step K T s)) (are_below (K.declared + length K.definitions) (full_step K T s)) r.0 r.1

  -- one step for each set of declared ticks, and a later one changes no earlier step
  pub completed-append : (R S T : List Step) → completed_after K T (R ++ S) ≡ completed_after K (completed_after K T R) S
  completed-append [] S T = refl
  completed-append (s ∷ R) S T = completed-append R S (T ++ full_step K T s ∷ [])

  pub length-completed : (R T : List Step) → length (completed_after K T R) ≡ length T + length R
  length-completed [] T = omega arith
  length-completed (s ∷ R) T = let e = length-completed R (T ++ full_step K T s ∷ []) in omega (arith, e, length-append T (full_step K T s ∷ []))

  completed_named : (R T : List Step) → list_all (is_declared K) R ≡ true → list_all (is_named K) T ≡ true
      → list_all (is_named K) (completed_after K T R) ≡ true
  completed_named [] T h t = t
  completed_named (s ∷ R) T h t =
      let w = and_parts (is_declared K s) (list_all (is_declared K) R) h in
      let f = full_named T s w.0 in
      completed_named R (T ++ full_step K T s ∷ []) w.1
      (list_all-append (is_named K) T (full_step K T s ∷ [])
      ∙ ap₂ (λ a b. a && b) t (and_from (is_named K (full_step K T s)) true f refl))

  pub completion_named : (R : List Step) → list_all (is_declared K) R ≡ true → list_all (is_named K) (completed K R) ≡ true
  completion_named R h = completed_named R [] h refl

-- A RUN OBEYS THE DEFINITIONS, which are items of it
module _ (K : System) where
  pub runs_obey : (T : List Step) → IsRun K T → ObeysDefinitions K T
  runs_obey T run x e n is u =
      let j = x - K.declared in
      let at : K.declared + j ≡ x = (let l = past_declared K x e is in omega arith) in
      let here : slice_get K.definitions j ≡ Some e = definitions-are K j ∙ ap (definition_of K) at ∙ is in
      let within : j < item_count K = (let l = slice_get_within K.definitions j e here in omega arith) in
      same_values (ticks_in x (step_at T n)) (eval (formula_at K T x e [] 0 n) (step_at T n))
      (ap (λ k. same (ticks_in k (step_at T n)) (eval (formula_at K T k e [] 0 n) (step_at T n))) (sym at)
      ∙ ap (λ f. eval f (step_at T n)) (sym (ap (item_or_constraint K T n j) here))
      ∙ run n j u within)
    where
      same_values : (a b : Bool) → same a b ≡ true → a ≡ b
      same_values true b h = sym h
      same_values false true h = let z : ⊥ = cc in absurd z
      same_values false false h = refl
