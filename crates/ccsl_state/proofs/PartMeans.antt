-- What has gone on by its own ticks has gone on by the full step: by induction over the clocks, since a definition reads lower ones.
use Rattle.std.proofs.lemmas.Grind.{common_steps}
use Rattle.std.proofs.Common.{◌≡◌, ℕ, zero, suc, ◌+◌, ◌-◌, ◌<◌, ◌≤◌, ◌^◌, ⊎_elim, List, [], ◌∷◌, ◌++◌, length, filter, Bool, true, false, ◌&&◌, Option, Some}
use Rattle.std.proofs.Common.{None, option_map, slice_get, slice_index_or, nat_lt, if◌then◌else◌, refl, sym, ap, ap₂, subst, ◌∙◌, arith, length-append, lt-ltb}
use Rattle.std.proofs.lemmas.Bool.{cases_lt, and_parts, and_from, ltb-true, or_left, or_right}
use Rattle.std.proofs.lemmas.Option.{get_or_from_slice_get, slice_get-get_or, slice_get_past}
use Rattle.ccsl_base.specs.Clocks.{ticks_in, is_ascending, are_below}
use Rattle.std.proofs.Math.Bool.{and-true, and_comm}
use Rattle.ccsl_base.proofs.Sets.{ticks_in-filter}
use Rattle.ccsl_base.proofs.Ascending.{part-ascends, same-members}
use Rattle.ccsl_formula.specs.Formula.{eval}
use Rattle.ccsl_kernel.specs.Syntax.{Expression, ENever, System, definition_of}
use Rattle.ccsl_kernel.specs.Table.{Now}
use Rattle.ccsl_kernel.specs.Lives.{Step}
use Rattle.ccsl_kernel.specs.Meaning.{definition_dead, dead_below}
use Rattle.ccsl_kernel.specs.Runs.{full_step}
use Rattle.ccsl_kernel.specs.Accepted.{IsAccepted}
use Rattle.ccsl_kernel.proofs.AcceptedParts.{accepted_guarded, accepted_scoped}
use Rattle.ccsl_kernel.proofs.Completion.{full_obeys, full_named}
use Rattle.ccsl_kernel.proofs.Definitions.{dead_below-at}
use Rattle.ccsl_kernel.proofs.Sets.{NoneFrom-are_below}
use Rattle.ccsl_state.specs.Tree.{most, Tree, TNever, opening, next, formula_of, dead_of}
use Rattle.ccsl_state.specs.Moves.{gone_in}
use Rattle.ccsl_state.specs.States.{tree_after, trees_from, trees_after, trees_in, opened_all}
use Rattle.ccsl_state.specs.Held.{calls_of}
use Rattle.ccsl_state.specs.Within.{TreeWithin}
use Rattle.ccsl_state.specs.Reach.{IsClosed, is_within}
use Rattle.ccsl_state.specs.Quiet.{named_by, reads}
use Rattle.ccsl_state.specs.Part.{HeldPart, followed_tree, part_of, PartStandsFor}
use Rattle.ccsl_state.specs.Passing.{tree_number, IsFollowed, IsPassed, AreKept}
use Rattle.ccsl_state.proofs.WithinLaws.{tick_same, dead_same, next_same}
use Rattle.ccsl_state.proofs.StateLaws.{states_opened, tree_step, length-step, tree_dead, states_mean, states_derive}
use Rattle.ccsl_state.proofs.StandLaws.{get_tree}
use Rattle.ccsl_state.proofs.WholeLaws.{derived-keeps}
use Rattle.ccsl_state.proofs.QuietLaws.{bodies_closed, opening_reads}
use Rattle.ccsl_state.proofs.ReachLaws.{definition_at}
use Rattle.ccsl_state.proofs.Visiting.{reads_below}

-- A PART OF A SET
module _ (p : ℕ → Bool) where
  -- what is in the part ticks in it as in the whole
  pub part_keeps : (s : List ℕ) (y : ℕ) → p y ≡ true → ticks_in y (filter p s) ≡ ticks_in y s
  part_keeps s y is = ticks_in-filter p y s ∙ ap (λ t. ticks_in y s && t) is ∙ and-true (ticks_in y s)

-- the tree of a definition, by its number
tree_get : (K : System) (T : List Step) (x : ℕ) (es : List Expression) (i : ℕ) (e : Expression) → slice_get es i ≡ Some e
    → slice_get (trees_from K T x es) i ≡ Some (tree_after K T (x + i) e)
tree_get K T x es i e is = get_tree K T x es i ∙ ap (option_map (tree_after K T (x + i))) is

-- THE OPENING: each followed definition is to be visited at the first step
pub kept_opened : (K : System) → IsAccepted K → (F : List ℕ) (trees : List Tree) (unsettled : List ℕ) → trees ≡ opened_all K K.definitions →
    ((i : ℕ) → ticks_in i unsettled ≡ (nat_lt i (length K.definitions) && ticks_in (K.declared + i) F)) → AreKept K F trees [] unsettled
kept_opened K ok F trees unsettled opened all = record {
  within = λ i f.
      let e = slice_index_or K.definitions i ENever in
      let at = slice_get-get_or K.definitions i ENever f.0 in
      let is : tree_number trees i ≡ opening K e [] = get_or_from_slice_get trees i (opening K e []) TNever
      (ap (λ ts. slice_get ts i) (opened ∙ states_opened K (accepted_guarded K ok)) ∙ tree_get K [] K.declared K.definitions i e at) in
      subst (TreeWithin (λ y. reads K i y ≡ true)) (sym is) (opening_reads K ok i e at);
  dead = λ i f h. absurd (waits i f h);
  alive = λ y l. refl;
  settled = λ i f h. absurd (waits i f h);
  few = λ i h. let w = and_parts (nat_lt i (length K.definitions)) (ticks_in (K.declared + i) F) (sym (all i) ∙ h) in
      (ltb-true i (length K.definitions) w.0, w.1);
}
  where
    waits : (i : ℕ) → IsFollowed K F i → ticks_in i unsettled ≡ false → ⊥
    waits i f h = let e : true ≡ false =
        sym (and_from (nat_lt i (length K.definitions)) (ticks_in (K.declared + i) F) (lt-ltb i (length K.definitions) f.0) f.1) ∙ sym (all i) ∙ h in cc

pub part_opened : (p : HeldPart) → IsAccepted p.system
    → trees_in p.system (calls_of p.system) p.system.definitions p.row ≡ opened_all p.system p.system.definitions → PartStandsFor p []
part_opened p ok opened = grind (arith, common_steps, states_opened, accepted_guarded)

-- what a step has found, in terms of the states before it
pub passed_by : (p : HeldPart) (s declared : Step) (calls row : List ℕ) (trees : List Tree) (step gone : List ℕ) → calls ≡ calls_of p.system → row ≡ p.row
    → declared ≡ s →
    IsPassed p.system p.followed (trees_in p.system calls p.system.definitions row) declared trees step gone
    → IsPassed p.system p.followed (trees_in p.system (calls_of p.system) p.system.definitions p.row) s trees step gone
passed_by p s declared calls row trees step gone calls_are row_is step_is given = grind (arith, common_steps, step_is)

-- ONE STEP MORE, as the program makes it
module _ (p : HeldPart) (T : List Step) (s : Step) (ok : IsAccepted p.system) (closed : IsClosed p.system p.followed)
    (low : are_below p.system.declared s ≡ true) (ascends : is_ascending s ≡ true)
    (gone₀ unsettled₀ : List ℕ) (kept₀ : AreKept p.system p.followed (trees_in p.system (calls_of p.system) p.system.definitions p.row) gone₀ unsettled₀)
    (trees : List Tree) (step gone unsettled : List ℕ)
    (passed : IsPassed p.system p.followed (trees_in p.system (calls_of p.system) p.system.definitions p.row) s trees step gone)
    (kept : AreKept p.system p.followed trees gone unsettled) (stands : PartStandsFor p T)
  where
    abbrev K : System
    K = p.system

    abbrev F : List ℕ
    F = p.followed

    abbrev old : List Tree
    old = trees_in p.system (calls_of p.system) p.system.definitions p.row

    few : length T ≤ most
    few = let l = stands.few in omega arith

    abbrev full : Step
    full = full_step K T s

    abbrev more : List Step
    more = T ++ full ∷ []

    -- the clocks that a followed definition reads are known
    known : (i y : ℕ) → ticks_in (K.declared + i) F ≡ true → reads K i y ≡ true → is_within K F y ≡ true
    known i y followed h = on (slice_get K.definitions i) refl h
      where
        on : (o : Option Expression) → slice_get K.definitions i ≡ o → named_by o y ≡ true → is_within K F y ≡ true
        on None is n = let z : ⊥ = cc in absurd z
        on (Some e) is n = ⊎_elim
            (λ (l : y < K.declared). or_left (nat_lt y K.declared) (ticks_in y F) (lt-ltb y K.declared l))
            (λ (l : K.declared ≤ y). or_right (nat_lt y K.declared) (ticks_in y F) (closed (K.declared + i) y e (definition_at K ok i e is) followed n l))
            (cases_lt y K.declared)

    before : (i : ℕ) (e : Expression) → IsFollowed K F i → slice_get K.definitions i ≡ Some e → tree_number old i ≡ tree_after K T (K.declared + i) e
    before i e f is = get_or_from_slice_get old i (tree_after K T (K.declared + i) e) TNever (stands.trees i f.1 ∙ tree_get K T K.declared K.definitions i e is)

    -- a clock is declared, or that of a definition, or of none
    numbered : (x : ℕ) → K.declared ≤ x → (i : ℕ) × (x ≡ K.declared + i)
    numbered x l = (x - K.declared, omega (arith, l))

    within_followed : (x i : ℕ) → x ≡ K.declared + i → is_within K F x ≡ true → ticks_in (K.declared + i) F ≡ true
    within_followed x i e h = grind (arith, common_steps)

    past : (i : ℕ) → length K.definitions ≤ i → ticks_in (K.declared + i) full ≡ false
    past i l =
        let w = and_parts (is_ascending full) (are_below (K.declared + length K.definitions) full)
        (full_named K T s (and_from (is_ascending s) (are_below K.declared s) ascends low)) in
        NoneFrom-are_below (K.declared + length K.definitions) full w.1 (K.declared + i) (omega (arith, l))

    -- A DEFINED CLOCK, where all lower ones are known to tick alike
    defined_tick : (i : ℕ) → ticks_in (K.declared + i) F ≡ true → ((y : ℕ) → y < K.declared + i → is_within K F y ≡ true → ticks_in y step ≡ ticks_in y full)
        → ticks_in (K.declared + i) step ≡ ticks_in (K.declared + i) full
    defined_tick i followed lower = ⊎_elim
        (λ (l : i < length K.definitions).
        let e = slice_index_or K.definitions i ENever in
        let at = slice_get-get_or K.definitions i ENever l in
        let x = K.declared + i in
        let f : IsFollowed K F i = (l, followed) in
        let is : definition_of K x ≡ Some e = definition_at K ok i e at in
        passed.tick i f
        ∙ tick_same (λ y. reads K i y ≡ true) step full (λ y r. lower y (reads_below K ok F i y r) (known i y followed r)) (tree_number old i)
        (kept₀.within i f)
        ∙ ap (λ t. eval (formula_of t) full) (before i e f at)
        ∙ ap (λ (now : Now). eval now.formula full) (states_mean K (accepted_guarded K ok) T x e few is)
        ∙ sym (full_obeys K (accepted_guarded K ok) (accepted_scoped K ok) T s low x e is))
        (λ (l : length K.definitions ≤ i). passed.outside i (λ (f : IsFollowed K F i). let m = f.0 in omega (arith, m, l)) ∙ sym (past i l))
        (cases_lt i (length K.definitions))

    tick_below : (b y : ℕ) → y < b → is_within K F y ≡ true → ticks_in y step ≡ ticks_in y full
    tick_below zero y l w = absurd (omega (arith, l))
    tick_below (suc b) y l w = at (λ z m v. tick_below b z (omega (arith, l, m)) v)
      where
        at : ((z : ℕ) → z < y → is_within K F z ≡ true → ticks_in z step ≡ ticks_in z full) → ticks_in y step ≡ ticks_in y full
        at lower = ⊎_elim
            (λ (m : y < K.declared). passed.declared y m ∙ sym
            (ap (ticks_in y) (sym (states_derive K (accepted_guarded K ok) T s few)) ∙ derived-keeps (trees_after K T) K.declared s y m))
            (λ (m : K.declared ≤ y).
            let n = numbered y m in
            ap (λ k. ticks_in k step) n.1
            ∙ defined_tick n.0 (within_followed y n.0 n.1 w) (λ z q v. lower z (let e = n.1 in omega (arith, q, e)) v)
            ∙ ap (λ k. ticks_in k full) (sym n.1))
            (cases_lt y K.declared)

    -- THE STEP is that part of the full one
    pub part_step : is_ascending step ≡ true → step ≡ part_of p full
    part_step step_ascends = same-members step (filter (is_within K F) full) step_ascends
        (part-ascends (is_within K F) full
        (and_parts (is_ascending full) (are_below (K.declared + length K.definitions) full)
        (full_named K T s (and_from (is_ascending s) (are_below K.declared s) ascends low))).0)
        (λ y. at y (is_within K F y) refl ∙ and_comm (is_within K F y) (ticks_in y full) ∙ sym (ticks_in-filter (is_within K F) y full))
      where
        at : (y : ℕ) (t : Bool) → is_within K F y ≡ t → ticks_in y step ≡ (is_within K F y && ticks_in y full)
        at y true w = tick_below (suc y) y (omega arith) w ∙ ap (λ t. t && ticks_in y full) (sym w)
        at y false w = ⊎_elim
            (λ (m : y < K.declared). let z : ⊥ =
            (let e : true ≡ false = sym (or_left (nat_lt y K.declared) (ticks_in y F) (lt-ltb y K.declared m)) ∙ w in cc) in absurd z)
            (λ (m : K.declared ≤ y).
            let n = numbered y m in
            ap (λ k. ticks_in k step) n.1
            ∙ passed.outside n.0 (λ (f : IsFollowed K F n.0).
            let z : ⊥ = (let e : true ≡ false = sym (or_right (nat_lt y K.declared) (ticks_in y F) (ap (λ k. ticks_in k F) n.1 ∙ f.1)) ∙ w in cc) in z)
            ∙ sym (ap (λ t. t && ticks_in y full) w))
            (cases_lt y K.declared)

    abbrev len : ℕ
    len = length (T ++ full_step K T s ∷ [])

    abbrev death : ℕ → Bool
    death y = definition_dead K (T ++ full_step K T s ∷ []) (dead_below K (T ++ full_step K T s ∷ []) y) (length (T ++ full_step K T s ∷ []))
        (definition_of K y)

    -- A TREE, where the deaths of the lower clocks are known
    tree_is : (i : ℕ) (e : Expression) → IsFollowed K F i → slice_get K.definitions i ≡ Some e
        → ((y : ℕ) → y < K.declared + i → is_within K F y ≡ true → ticks_in y gone ≡ death y) →
        tree_number trees i ≡ tree_after K more (K.declared + i) e
    tree_is i e f is lower =
        let x = K.declared + i in
        passed.tree i f
        ∙ next_same (λ y. reads K i y ≡ true) K (bodies_closed K ok) step full (λ y r. tick_below (suc y) y (omega arith) (known i y f.1 r)) (gone_in gone)
        (dead_below K more x len)
        (λ y r. lower y (reads_below K ok F i y r) (known i y f.1 r) ∙ sym (dead_below-at K more x len y (reads_below K ok F i y r))) (tree_number old i)
        (kept₀.within i f)
        ∙ ap₂ (λ n t. next K full (dead_below K more x n) t) (length-step K (accepted_guarded K ok) T full) (before i e f is)
        ∙ sym (tree_step K (accepted_guarded K ok) T full x e)

    module _ (small : length (T ++ full_step K T s ∷ []) ≤ most) where
      defined_death : (i : ℕ) → IsFollowed K F i → ((y : ℕ) → y < K.declared + i → is_within K F y ≡ true → ticks_in y gone ≡ death y)
          → ticks_in (K.declared + i) gone ≡ death (K.declared + i)
      defined_death i f lower =
          let e = slice_index_or K.definitions i ENever in
          let at = slice_get-get_or K.definitions i ENever f.0 in
          let x = K.declared + i in
          passed.dead i f
          ∙ dead_same (λ y. reads K i y ≡ true) (gone_in gone) (dead_below K more x len)
          (λ y r. lower y (reads_below K ok F i y r) (known i y f.1 r) ∙ sym (dead_below-at K more x len y (reads_below K ok F i y r))) (tree_number trees i)
          (kept.within i f)
          ∙ ap (dead_of (dead_below K more x len)) (tree_is i e f at lower)
          ∙ tree_dead K (accepted_guarded K ok) more x e small (definition_at K ok i e at)

      death_below : (b y : ℕ) → y < b → y < K.declared + length K.definitions → is_within K F y ≡ true → ticks_in y gone ≡ death y
      death_below zero y l u w = absurd (omega (arith, l))
      death_below (suc b) y l u w = at (λ z m v. death_below b z (omega (arith, l, m)) (omega (arith, u, m)) v)
        where
          at : ((z : ℕ) → z < y → is_within K F z ≡ true → ticks_in z gone ≡ death z) → ticks_in y gone ≡ death y
          at lower = ⊎_elim
              (λ (m : y < K.declared). kept.alive y m
              ∙ sym (ap (definition_dead K more (dead_below K more y) len)
              (ap (λ t. if t then None else slice_get K.definitions (y - K.declared)) (lt-ltb y K.declared m))))
              (λ (m : K.declared ≤ y).
              let n = numbered y m in
              let e = n.1 in
              ap (λ k. ticks_in k gone) n.1
              ∙ defined_death n.0 (omega (arith, e, u), within_followed y n.0 n.1 w) (λ z q v. lower z (omega (arith, q, e)) v)
              ∙ ap death (sym n.1))
              (cases_lt y K.declared)

      -- THE TREES are those after the full step
      trees_are : (i : ℕ) → ticks_in (K.declared + i) F ≡ true → slice_get trees i ≡ slice_get (trees_after K more) i
      trees_are i followed = ⊎_elim
          (λ (l : i < length K.definitions).
          let e = slice_index_or K.definitions i ENever in
          let at = slice_get-get_or K.definitions i ENever l in
          slice_get-get_or trees i TNever (let c = passed.count in omega (arith, l, c))
          ∙ ap Some (tree_is i e (l, followed) at (λ y m w. death_below (suc y) y (omega arith) (omega (arith, m, l)) w))
          ∙ sym (tree_get K more K.declared K.definitions i e at))
          (λ (l : length K.definitions ≤ i). slice_get_past trees i (let c = passed.count in omega (arith, l, c))
          ∙ sym (get_tree K more K.declared K.definitions i ∙ ap (option_map (tree_after K more (K.declared + i))) (slice_get_past K.definitions i l)))
          (cases_lt i (length K.definitions))

    pub part_stands : (p' : HeldPart) → length T + 1 < 2 ^ 64 → p'.system ≡ p.system → p'.followed ≡ p.followed
        → ((i : ℕ) → followed_tree p' i ≡ slice_get trees i) → PartStandsFor p' more
    part_stands p' short system followed same = record {
      trees = λ i is.
          same i
          ∙ trees_are (omega (arith, short, length-append T (full ∷ []))) i
          (ap₂ (λ (K : System) F. ticks_in (K.declared + i) F) (sym system) (sym followed) ∙ is)
          ∙ ap (λ K. slice_get (trees_after K more) i) (sym system);
      few = omega (arith, short, length-append T (full ∷ []));
    }
