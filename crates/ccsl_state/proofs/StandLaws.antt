-- What states that stand for a list of steps tell, and for which list they stand after one step more.
use Rattle.std.proofs.lemmas.Grind.{common_steps}
use Rattle.std.proofs.Common.{◌≡◌, ℕ, zero, suc, ◌+◌, ◌-◌, ◌<◌, ◌≤◌, ◌^◌, List, [], ◌∷◌, ◌++◌, length, drop, replicate, map, Bool, true, false, Option}
use Rattle.std.proofs.Common.{Some, None, option_map, slice_get, slice_index, nat_eq, nat_le, if◌then◌else◌, refl, sym, ap, ap₂, subst, ◌∙◌, arith, ⊎_elim}
use Rattle.std.proofs.Common.{eqb-true, length-append, nat_lt, slice_index_or}
use Rattle.std.proofs.Math.Seq.{take-length}
use Rattle.std.proofs.lemmas.Bool.{or_cases, cases_lt}
use Rattle.std.proofs.lemmas.List.{map_push, get_or-drop, get_or-replicate, get_or_past, length-replicate}
use Rattle.std.proofs.lemmas.Option.{slice_get_within, slice_get_past, get_or_from_slice_get, slice_get-get_or}
use Rattle.ccsl_base.specs.Clocks.{ticks_in, are_below}
use Rattle.ccsl_formula.specs.Formula.{Formula, FTrue, FVar, FIff, FNot, FOr, FFalse, FAnd, eval}
use Rattle.ccsl_formula.specs.Variables.{reads, ReadsBelow}
use Rattle.ccsl_kernel.specs.declared.constraint.Constraint.{Constraint}
use Rattle.ccsl_kernel.specs.declared.constraint.RelationKind.{RelationKind}
use Rattle.ccsl_kernel.specs.declared.constraint.RelationKind.TheVariants.{Subclock, Coincides, Excludes, Precedes, PrecedesWeakly, PrecedesWithin}
use Rattle.ccsl_kernel.specs.Syntax.{Expression, System, definition_of, ENever}
use Rattle.ccsl_kernel.specs.Cells.{cells_in}
use Rattle.ccsl_kernel.specs.Lives.{Step, step_at}
use Rattle.ccsl_kernel.specs.Ticks.{count}
use Rattle.ccsl_kernel.specs.Deaths.{dead_at}
use Rattle.ccsl_kernel.specs.Items.{clock_count, relation_formula, constraint_or_true, item_or_constraint, item_formula}
use Rattle.ccsl_kernel.specs.Runs.{full_step, ObeysDefinitions}
use Rattle.ccsl_kernel.specs.Accepted.{IsConstraint, IsAccepted}
use Rattle.ccsl_kernel.proofs.Definitions.{definitions-are, step_at-front, step_at-last, definition_allowed, dead_below-same}
use Rattle.ccsl_kernel.proofs.AcceptedParts.{accepted_guarded, accepted_scoped}
use Rattle.ccsl_kernel.proofs.Bounded.{clocks_bounded}
use Rattle.ccsl_kernel.proofs.Quiet.{count-snoc}
use Rattle.ccsl_kernel.proofs.Scope.{ReadsOnly, reads_only, chosen}
use Rattle.ccsl_state.specs.Tree.{bumped, Tree, formula_of, TName, TNever, TOne, TTwo, TThen, One, Delaying, Awaiting, Filtering, Two, Uniting, Meeting}
use Rattle.ccsl_state.specs.Tree.{Lessening, Leading, Trailing, Ending, EndingWeakly, Sampling, SamplingWeakly, Lagging, one_formula, two_formula}
use Rattle.ccsl_state.specs.States.{trees_in, next_all, derived_in, tree_after, trees_from, trees_after, opened_all}
use Rattle.ccsl_state.specs.Below.{TreeBelow, TreesBelow}
use Rattle.ccsl_state.specs.Held.{Held, trees_of, is_dead, derived_by, counts_of, left_count, right_count, counted_formula, tree_or_constraint, formula_in}
use Rattle.ccsl_state.specs.Held.{Advances, StandsFor}
use Rattle.ccsl_state.proofs.StateLaws.{states_opened, states_step, states_dead, states_mean, states_derive}
use Rattle.ccsl_kernel.specs.Table.{Now}
use Rattle.ccsl_words.specs.Word.{letter}
use Rattle.ccsl_kernel.specs.Meaning.{dead_below, formula_at}
use Rattle.ccsl_kernel.proofs.Completion.{asked_before, full_obeys}
use Rattle.ccsl_kernel.proofs.Silent.{obeying_silent}
use Rattle.ccsl_kernel.proofs.TableHolds.{first_steps_matter}
use Rattle.ccsl_state.specs.Laws.{StaySilent}

-- The formula of a tree that names clocks below a bound reads these only.

module _ (X : ℕ) where
  one_reads : (o : One) (f : Formula) → ReadsOnly X f → ReadsOnly X (one_formula o f)
  one_reads (Delaying m ticks) f r = chosen X (nat_le m ticks) f FFalse r tt
  one_reads (Awaiting m ticks) f r = chosen X (nat_eq (ticks + 1) m) f FFalse r tt
  one_reads (Filtering w o) f r = chosen X (letter w o) f FFalse r tt

  two_reads : (o : Two) (f g : Formula) → ReadsOnly X f → ReadsOnly X g → ReadsOnly X (two_formula o f g)
  two_reads Uniting f g r r' = (r, r')
  two_reads Meeting f g r r' = (r, r')
  two_reads Lessening f g r r' = (r, r')
  two_reads (Leading a d) f g r r' = chosen X (nat_lt d a) f (if nat_lt a d then g else FOr f g) r (chosen X (nat_lt a d) g (FOr f g) r' (r, r'))
  two_reads (Trailing a d) f g r r' = chosen X (nat_lt a d) f (if nat_lt d a then g else FAnd f g) r (chosen X (nat_lt d a) g (FAnd f g) r' (r, r'))
  two_reads (Ending seen) f g r r' = chosen X seen FFalse (FAnd f (FNot g)) tt (r, r')
  two_reads (EndingWeakly seen) f g r r' = chosen X seen FFalse f tt r
  two_reads (Sampling waiting) f g r r' = chosen X waiting g FFalse r' tt
  two_reads (SamplingWeakly waiting) f g r r' = chosen X waiting g (FAnd g f) r' (r', r)
  two_reads (Lagging m waiting) f g r r' = chosen X (slice_index_or waiting (m - 1) false) g FFalse r' tt

  pub tree_reads : (t : Tree) → TreeBelow X t → ReadsOnly X (formula_of t)
  tree_reads (TName x) h = h
  tree_reads TNever h = tt
  tree_reads (TOne o a) h = one_reads o (formula_of a) (tree_reads a h)
  tree_reads (TTwo o a d) h = two_reads o (formula_of a) (formula_of d) (tree_reads a h.0) (tree_reads d h.1)
  tree_reads (TThen a d ρ) h = tree_reads a h.0

-- the tree of a definition after a list of steps
pub get_tree : (K : System) (T : List Step) (x : ℕ) (es : List Expression) (i : ℕ)
    → slice_get (trees_from K T x es) i ≡ option_map (tree_after K T (x + i)) (slice_get es i)
get_tree K T x [] i = refl
get_tree K T x (e ∷ es) zero = ap (λ k. Some (tree_after K T k e)) (omega arith)
get_tree K T x (e ∷ es) (suc i) = get_tree K T (suc x) es i ∙ ap (λ k. option_map (tree_after K T k) (slice_get es i)) (omega arith)

-- a clock's count in one step more
count_more : (T : List Step) (s : Step) (x : ℕ) → length T < 2 ^ 64 - 1
    → clock_count (T ++ s ∷ []) x (length (T ++ s ∷ [])) ≡ bumped (ticks_in x s) (clock_count T x (length T))
count_more T s x few =
    rw (take-length (T ++ s ∷ []), take-length T, map_push (ticks_in x) T s, count-snoc (map (ticks_in x) T) (ticks_in x s)) (on (ticks_in x s))
  where
    bound : count (map (ticks_in x) T) ≤ length T
    bound = let b = clocks_bounded T x (length T) in let e = ap (λ U. count (map (ticks_in x) U)) (take-length T) in omega arith

    on : (t : Bool) → (if t then suc (count (map (ticks_in x) T)) else count (map (ticks_in x) T)) ≡ bumped t (count (map (ticks_in x) T))
    on true = let b = bound in omega (arith, b, few)
    on false = refl

pub trees_len : (K : System) (earlier : List ℕ) (es : List Expression) (row : List ℕ) → length (trees_in K earlier es row) ≡ length es
trees_len K earlier [] row = refl
trees_len K earlier (e ∷ es) row = ap suc (trees_len K earlier es (drop (cells_in earlier e) row))

pub zeros : (n m k : ℕ) → slice_index (drop m (replicate n 0)) k ≡ 0
zeros n m k = grind (arith, common_steps, get_or-drop, get_or-replicate, get_or_past, length-replicate)

module _ (h : Held) (ok : IsAccepted h.system) where
  -- THE OPENING
  pub stands_opened : trees_of h ≡ opened_all h.system h.system.definitions → ((k : ℕ) → slice_index (counts_of h) k ≡ 0) → StandsFor h []
  stands_opened trees zeros = grind (arith, common_steps, states_opened, accepted_guarded)

  module _ (T : List Step) (stands : StandsFor h T) where
    few : length T ≤ 2 ^ 64 - 1
    few = let l = stands.few in omega arith

    -- THE FORMULAS
    pub stands_formula : (i : ℕ) → formula_in h i ≡ item_formula h.system T (length T) i
    stands_formula i =
        ap (λ ts. tree_or_constraint h i (slice_get ts i)) stands.trees
        ∙ ap (tree_or_constraint h i) (get_tree h.system T h.system.declared h.system.definitions i)
        ∙ on (slice_get h.system.definitions i) refl
      where
        counted : (j : ℕ) (o : Option Constraint) → slice_get h.system.constraints j ≡ o
            → counted_formula (left_count h j) (right_count h j) o ≡ constraint_or_true T (length T) o
        counted j None at = refl
        counted j (Some c) at = let r = stands.counts j c at in ap₂ (relation_formula c.kind c.left c.right) r.0 r.1

        on : (o : Option Expression) → slice_get h.system.definitions i ≡ o →
            tree_or_constraint h i (option_map (tree_after h.system T (h.system.declared + i)) o) ≡ item_or_constraint h.system T (length T) i o
        on None at = counted (i - length h.system.definitions) (slice_get h.system.constraints (i - length h.system.definitions)) refl
        on (Some e) at =
            ap (λ (now : Now). FIff (FVar (h.system.declared + i)) now.formula)
            (states_mean h.system (accepted_guarded h.system ok) T (h.system.declared + i) e few (sym (definitions-are h.system i) ∙ at))

    -- THE FULL STEP
    pub stands_derived : (s : Step) → derived_by h s ≡ full_step h.system T s
    stands_derived s = ap (λ ts. derived_in ts h.system.declared s) stands.trees ∙ states_derive h.system (accepted_guarded h.system ok) T s few

    -- THE DEATHS
    pub stands_dead : (i : ℕ) (e : Expression) → definition_of h.system (h.system.declared + i) ≡ Some e
        → is_dead h i ≡ dead_at h.system T (h.system.declared + i) e [] 0 (length T)
    stands_dead i e is = grind (arith, common_steps, states_dead, accepted_guarded, few, slice_get_within, definitions-are)

    -- ONE STEP MORE
    pub stands_next : (s : Step) (h' : Held) → Advances h (derived_by h s) h' → length T + 1 < 2 ^ 64 → StandsFor h' (T ++ full_step h.system T s ∷ [])
    stands_next s h' next short =
        let f = full_step h.system T s in
        let derived = stands_derived s in
        let len : length (T ++ f ∷ []) ≡ length T + 1 = length-append T (f ∷ []) in
        record {
          trees =
              next.trees
              ∙ ap₂ (λ f ts. next_all h.system f [] h.system.declared ts) derived stands.trees
              ∙ states_step h.system (accepted_guarded h.system ok) T f (omega (arith, len, short))
              ∙ ap (λ K. trees_after K (T ++ f ∷ [])) (sym next.system);
          counts = λ j c is.
              let at : slice_get h.system.constraints j ≡ Some c = ap (λ (K : System). slice_get K.constraints j) (sym next.system) ∙ is in
              let counted = next.counts j c at in
              let before = stands.counts j c at in (
                counted.0 ∙ ap₂ (λ f n. bumped (ticks_in c.left f) n) derived before.0 ∙ sym (count_more T f c.left (omega (arith, short))),
                counted.1 ∙ ap₂ (λ f n. bumped (ticks_in c.right f) n) derived before.1 ∙ sym (count_more T f c.right (omega (arith, short))),
              );
          few = omega (arith, len, short);
        }

  -- A CONSTRAINT, behind the definitions
  pub constraint_is : length (trees_of h) ≡ length h.system.definitions → (j : ℕ) (c : Constraint) → slice_get h.system.constraints j ≡ Some c →
      formula_in h (length h.system.definitions + j) ≡ relation_formula c.kind c.left c.right (left_count h j) (right_count h j)
  constraint_is same j c at =
      let n = length h.system.definitions in
      let place : n + j - n ≡ j = omega arith in
      rw (slice_get_past (trees_of h) (n + j) (omega (arith, same)), place, at)

  -- WHAT THE FORMULAS READ
  relation_reads : (X : ℕ) (kind : RelationKind) (a b m n : ℕ) → a < X → b < X → ReadsOnly X (relation_formula kind a b m n)
  relation_reads X Subclock a b m n p q = (p, q)
  relation_reads X Coincides a b m n p q = (p, q)
  relation_reads X Excludes a b m n p q = (p, q)
  relation_reads X Precedes a b m n p q = chosen X (nat_eq m n) (FNot (FVar b)) FTrue q tt
  relation_reads X PrecedesWeakly a b m n p q = chosen X (nat_eq m n) (FOr (FNot (FVar b)) (FVar a)) FTrue (q, p) tt
  relation_reads X (PrecedesWithin k) a b m n p q =
      (chosen X (nat_eq m n) (FNot (FVar b)) FTrue q tt, chosen X (nat_le (n + k) m) (FOr (FNot (FVar a)) (FVar b)) FTrue (p, q) tt)

  tree_at : (x : ℕ) (ts : List Tree) (i : ℕ) (t : Tree) → TreesBelow x ts → slice_get ts i ≡ Some t → TreeBelow (x + i) t
  tree_at x [] i t b at = let z : ⊥ = cc in absurd z
  tree_at x (t' ∷ ts) zero t b at = let same : t' ≡ t = cc in subst (λ k. TreeBelow k t) (omega arith) (subst (TreeBelow x) same b.0)
  tree_at x (t' ∷ ts) (suc i) t b at = subst (λ k. TreeBelow k t) (omega arith) (tree_at (suc x) ts i t b.1 at)

  pub formula_below : TreesBelow h.system.declared (trees_of h) → length (trees_of h) ≡ length h.system.definitions → (i : ℕ)
      → ReadsBelow (length h.system.names) (formula_in h i)
  formula_below below same i = on (slice_get (trees_of h) i) refl
    where
      constraint : (j : ℕ) (o : Option Constraint) → slice_get h.system.constraints j ≡ o
          → ReadsBelow (length h.system.names) (counted_formula (left_count h j) (right_count h j) o)
      constraint j None at = reads_only (length h.system.names) FTrue tt
      constraint j (Some c) at =
          let is = ok.constraints j c (slice_get_within h.system.constraints j c at) in
          let known : IsConstraint (length h.system.names) c =
          subst (IsConstraint (length h.system.names)) (get_or_from_slice_get h.system.constraints j c c at) is in
          reads_only (length h.system.names) (relation_formula c.kind c.left c.right (left_count h j) (right_count h j))
          (relation_reads (length h.system.names) c.kind c.left c.right (left_count h j) (right_count h j) known.0 known.1)

      on : (o : Option Tree) → slice_get (trees_of h) i ≡ o → ReadsBelow (length h.system.names) (tree_or_constraint h i o)
      on None at = constraint (i - length h.system.definitions) (slice_get h.system.constraints (i - length h.system.definitions)) refl
      on (Some t) at = λ v r.
          let within = slice_get_within (trees_of h) i t at in
          let all = ok.defined in
          ⊎_elim
          (λ (e : nat_eq v (h.system.declared + i) ≡ true). let same_clock =
          eqb-true v (h.system.declared + i) e in omega (arith, within, all, same, same_clock))
          (λ (e : reads (formula_of t) v ≡ true). let low =
          reads_only (h.system.declared + i) (formula_of t) (tree_reads (h.system.declared + i) t (tree_at h.system.declared (trees_of h) i t below at)) v
          e in omega (arith, within, all, same, low))
          (or_cases (nat_eq v (h.system.declared + i)) (reads (formula_of t) v) r)

-- A definition that is dead neither ticks in the next full step nor comes back.

module _ (K : System) (ok : IsAccepted K) (T : List Step) (s : Step) (obeys : ObeysDefinitions K T) (low : are_below K.declared s ≡ true) where
  longer : length (T ++ full_step K T s ∷ []) ≡ suc (length T)
  longer = omega (arith, length-append T (full_step K T s ∷ []))

  -- the list with the full step obeys the definitions too
  next_obeys : ObeysDefinitions K (T ++ full_step K T s ∷ [])
  next_obeys x e n is u =
      let f = full_step K T s in
      ⊎_elim
      (λ (l : n < length T).
      ap (ticks_in x) (step_at-front T f n l) ∙ obeys x e n is l
      ∙ sym (ap₂ eval (asked_before K (accepted_guarded K ok) (accepted_scoped K ok) T f x e n is (omega arith)) (step_at-front T f n l)))
      (λ (l : length T ≤ n).
      let at : n ≡ length T = omega (arith, longer) in
      let last : step_at (T ++ f ∷ []) n ≡ f = ap (step_at (T ++ f ∷ [])) at ∙ step_at-last T f in
      ap (ticks_in x) last ∙ full_obeys K (accepted_guarded K ok) (accepted_scoped K ok) T s low x e is
      ∙ sym (ap₂ eval (ap (formula_at K (T ++ f ∷ []) x e [] 0) at
      ∙ asked_before K (accepted_guarded K ok) (accepted_scoped K ok) T f x e (length T) is (omega arith)) last))
      (cases_lt n (length T))

  -- a definition that was dead there does not tick in that step, and is dead after it
  pub next_silent : (x : ℕ) (e : Expression) → definition_of K x ≡ Some e → dead_at K T x e [] 0 (length T) ≡ true →
      (ticks_in x (full_step K T s) ≡ false) × (dead_at K (T ++ full_step K T s ∷ []) x e [] 0 (length (T ++ full_step K T s ∷ [])) ≡ true)
  next_silent x e is dead =
      let f = full_step K T s in
      let g = accepted_guarded K ok in
      let n = length T in
      let allowed = definition_allowed K g x e is in
      let front : (i : ℕ) → i < n → step_at (T ++ f ∷ []) i ≡ step_at T i = λ i l. step_at-front T f i l in
      let within : n ≤ length (T ++ f ∷ []) = omega (arith, longer) in
      let was : dead_at K (T ++ f ∷ []) x e [] 0 n ≡ true =
      ap (λ (now : Now). now.dead)
      (first_steps_matter K (T ++ f ∷ []) T (dead_below K (T ++ f ∷ []) x) (dead_below K T x) g.bodies e [] 0 n allowed (omega arith) within (omega arith) front
      (λ i y l. dead_below-same K g (T ++ f ∷ []) T n within (omega arith) front x i y l))
      ∙ dead in
      let w = (obeying_silent K (T ++ f ∷ []) g next_obeys x e [] 0 allowed (omega arith)).at n (omega arith) (omega (arith, longer)) in (
        full_obeys K g (accepted_scoped K ok) T s low x e is
            ∙ sym (ap₂ eval (asked_before K g (accepted_scoped K ok) T f x e n is (omega arith)) (step_at-last T f))
            ∙ w.quiet was,
        ap (dead_at K (T ++ f ∷ []) x e [] 0) longer ∙ w.stays was,
      )

pub stay_silent : (h : Held) (ok : IsAccepted h.system) (T : List Step) (stands : StandsFor h T) (s : Step) (h' : Held) → ObeysDefinitions h.system T →
    are_below h.system.declared s ≡ true → length T + 1 < 2 ^ 64 → Advances h (derived_by h s) h' → StaySilent h (derived_by h s) h'
stay_silent h ok T stands s h' obeys low short next i l dead =
    let K = h.system in
    let x = K.declared + i in
    let e = slice_index_or K.definitions i ENever in
    let is : definition_of K x ≡ Some e = sym (definitions-are K i) ∙ slice_get-get_or K.definitions i ENever l in
    let was : dead_at K T x e [] 0 (length T) ≡ true = sym (stands_dead h ok T stands i e is) ∙ dead in
    let silent = next_silent K ok T s obeys low x e is was in
    let T' = T ++ full_step K T s ∷ [] in
    let there = stands_dead h' (subst IsAccepted (sym next.system) ok) T' (stands_next h ok T stands s h' next short) i e
    (ap (λ (K' : System). definition_of K' (K'.declared + i)) next.system ∙ is) in (
      ap (ticks_in x) (stands_derived h ok T stands s) ∙ silent.0,
      there ∙ ap (λ (K' : System). dead_at K' T' (K'.declared + i) e [] 0 (length T')) next.system ∙ silent.1,
    )
