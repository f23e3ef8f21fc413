-- A STEP THAT VISITS ONLY WHAT HEARS SOMETHING: a definition that waits for its visit is untouched, and one that does not is done.
use Rattle.std.proofs.Common.{◌≡◌, ℕ, ◌+◌, ◌<◌, ◌≤◌, ⊎_elim, List, [], length, Bool, true, false, not, ◌&&◌, ◌||◌, slice_set, slice_index_or, nat_eq, sym, ap}
use Rattle.std.proofs.Common.{subst, ◌∙◌, arith, ◌∷◌, Option, Some, None, min, nat_lt, refl, eq-eqb}
use Rattle.std.proofs.lemmas.Bool.{cases_eq, not-false, or_cases, or_right}
use Rattle.std.proofs.lemmas.List.{length-set, get_or-set_same, get_or-set_other, get_or_default}
use Rattle.std.proofs.lemmas.Option.{slice_get_within, slice_get_past}
use Rattle.ccsl_base.specs.Clocks.{ticks_in, is_ascending, are_below, with_clock}
use Rattle.ccsl_base.specs.Changes.{put_clock}
use Rattle.std.proofs.lemmas.Grind.{common_steps}
use Rattle.ccsl_base.proofs.Sets.{ticks_in-put_same, ticks_in-put_other}
use Rattle.ccsl_formula.specs.Formula.{eval}
use Rattle.ccsl_kernel.specs.Syntax.{System, Expression}
use Rattle.ccsl_kernel.specs.Accepted.{IsAccepted}
use Rattle.ccsl_kernel.proofs.Sets.{NoneFrom-are_below, ticks_in-with_clock}
use Rattle.ccsl_state.specs.Tree.{Tree, TNever, next, formula_of, dead_of}
use Rattle.ccsl_state.specs.Moves.{gone_in}
use Rattle.ccsl_state.specs.States.{put}
use Rattle.ccsl_state.specs.Within.{TreeWithin}
use Rattle.ccsl_state.specs.Quiet.{reads, is_settled, named_by}
use Rattle.ccsl_state.specs.Passing.{tree_number, IsFollowed, AreReaders, AreKept, IsPassed}
use Rattle.ccsl_state.proofs.StateLaws.{put_same, put_other}
use Rattle.ccsl_state.proofs.WithinLaws.{tick_same, dead_same, next_same, next_within}
use Rattle.ccsl_state.proofs.QuietLaws.{tells_nothing, stays, settled_same, bodies_closed, tree_more}
use Rattle.ccsl_state.proofs.ReachLaws.{definition_names, definition_at}
use Rattle.ccsl_base.proofs.Ascending.{with_clock-ascends, above}
use Rattle.std.specs.Prelude.{MatchOption, IfSome}
use Rattle.std.specs.List.{list_any}
use Rattle.ccsl_kernel.specs.Lives.{Step}
use Rattle.ccsl_state.specs.Reach.{names_clock}
use Rattle.ccsl_state.specs.declared.layout.Layout.{Layout}
use Rattle.ccsl_state.specs.declared.moved.Stepped.{Stepped}
use Rattle.ccsl_state.specs.declared.follow.Passage.{Passage}
use Rattle.ccsl_state.specs.Regions.{trees_from}
use Rattle.ccsl_state.specs.Visits.{IsVisited, IsEntered, is_waiting}

first_false : (a b : Bool) → (a && b) ≡ false → b ≡ true → a ≡ false
first_false a b h is = grind (arith, common_steps)

put_ascends : (t : Bool) (x : ℕ) (s : List ℕ) → is_ascending s ≡ true → is_ascending (put t x s) ≡ true
put_ascends true x s h = with_clock-ascends x s h
put_ascends false x s h = h

-- a definition that is done, in what has been found so far
pub record IsDone (K : System) (old : List Tree) (trees : List Tree) (step gone unsettled : List ℕ) (i : ℕ) : Type 0 where
  pub tick : ticks_in (K.declared + i) step ≡ eval (formula_of (tree_number old i)) step
  pub tree : tree_number trees i ≡ next K step (gone_in gone) (tree_number old i)
  pub dead : ticks_in (K.declared + i) gone ≡ dead_of (gone_in gone) (tree_number trees i)
  pub settled : ticks_in i unsettled ≡ false → is_settled (gone_in gone) (tree_number trees i) ≡ true

-- and one that is untouched
pub record IsUntouched (K : System) (gone₀ : List ℕ) (old : List Tree) (trees : List Tree) (step gone : List ℕ) (i : ℕ) : Type 0 where
  pub tick : ticks_in (K.declared + i) step ≡ false
  pub tree : tree_number trees i ≡ tree_number old i
  pub dead : ticks_in (K.declared + i) gone ≡ ticks_in (K.declared + i) gone₀

-- WHAT HOLDS BETWEEN TWO VISITS
pub record IsGoing (K : System) (F s gone₀ : List ℕ) (old : List Tree) (trees : List Tree) (step gone waiting unsettled : List ℕ) : Type 0 where
  pub count : length trees ≡ length K.definitions
  pub done : (i : ℕ) → IsFollowed K F i → ticks_in i waiting ≡ false → IsDone K old trees step gone unsettled i
  pub untouched : (m i : ℕ) → ticks_in m waiting ≡ true → m ≤ i → IsUntouched K gone₀ old trees step gone i
  pub followed : (m : ℕ) → ticks_in m waiting ≡ true → IsFollowed K F m
  pub few : (m : ℕ) → ticks_in m unsettled ≡ true → IsFollowed K F m
  pub declared : (y : ℕ) → y < K.declared → ticks_in y step ≡ ticks_in y s
  pub outside : (i : ℕ) → (IsFollowed K F i → ⊥) → ticks_in (K.declared + i) step ≡ false
  pub alive : (y : ℕ) → y < K.declared → ticks_in y gone ≡ false
  pub ascends : is_ascending step ≡ true

-- A VISIT: told is whether something came of it that others may hear
pub record IsVisit (K : System) (readers : List (List ℕ)) (trees trees' : List Tree) (step step' gone gone' waiting waiting' unsettled unsettled' : List ℕ)
    (j : ℕ) (tick dead settled told : Bool) : Type 0 where
  pub trees_are : trees' ≡ slice_set trees j (next K step (gone_in gone) (tree_number trees j))
  pub tick_is : tick ≡ eval (formula_of (tree_number trees j)) step
  pub dead_is : dead ≡ dead_of (gone_in gone) (next K step (gone_in gone) (tree_number trees j))
  pub settled_is : settled ≡ true → is_settled (gone_in gone) (next K step (gone_in gone) (tree_number trees j)) ≡ true
  pub told_is : told ≡ false → (tick ≡ false) × (dead ≡ ticks_in (K.declared + j) gone)
  pub step_is : step' ≡ put tick (K.declared + j) step
  pub gone_is : (x : ℕ) → ticks_in x gone' ≡ ticks_in x (put_clock (K.declared + j) dead gone)
  pub unsettled_is : (p : ℕ) → ticks_in p unsettled' ≡ ticks_in p (put_clock j (not settled) unsettled)
  pub waiting_is : (p : ℕ)
      → ticks_in p waiting' ≡ ((ticks_in p waiting && not (nat_eq j p)) || (told && ticks_in p (slice_index_or readers (K.declared + j) [])))

module _ (K : System) (ok : IsAccepted K) (F : List ℕ) where
  pub reads_below : (i y : ℕ) → reads K i y ≡ true → y < K.declared + i
  reads_below i y h = grind (arith, common_steps, definition_names, definition_at)

  reads_there : (i y : ℕ) → reads K i y ≡ true → i < length K.definitions
  reads_there i y h = grind (arith, common_steps, slice_get_within)

  module _ (readers : List (List ℕ)) (are : AreReaders K F readers) where
    -- a reader of a clock is followed and names it
    pub reader : (i y : ℕ) → ticks_in i (slice_index_or readers y []) ≡ true → IsFollowed K F i × (reads K i y ≡ true)
    reader i y h = grind (arith, common_steps, reads_there)

    no_reader : (i y : ℕ) → IsFollowed K F i → reads K i y ≡ true → ticks_in i (slice_index_or readers y []) ≡ true
    no_reader i y followed h = grind (arith, common_steps)

    module _ (s gone₀ : List ℕ) (old : List Tree) (within : (i : ℕ) → IsFollowed K F i → TreeWithin (λ y. reads K i y ≡ true) (tree_number old i)) where
      module _ (trees trees' : List Tree) (step step' gone gone' waiting waiting' unsettled unsettled' : List ℕ) (j : ℕ) (tick dead settled told : Bool)
          (g : IsGoing K F s gone₀ old trees step gone waiting unsettled)
          (v : IsVisit K readers trees trees' step step' gone gone' waiting waiting' unsettled unsettled' j tick dead settled told)
          (is : ticks_in j waiting ≡ true) (first : (m : ℕ) → ticks_in m waiting ≡ true → j ≤ m)
        where
          here : IsUntouched K gone₀ old trees step gone j
          here = g.untouched j j is (omega arith)

          mine : IsFollowed K F j
          mine = g.followed j is

          step_other : (y : ℕ) → (y ≡ K.declared + j → ⊥) → ticks_in y step' ≡ ticks_in y step
          step_other y ne = ap (ticks_in y) v.step_is ∙ put_other tick (K.declared + j) y step ne

          gone_other : (y : ℕ) → (y ≡ K.declared + j → ⊥) → ticks_in y gone' ≡ ticks_in y gone
          gone_other y ne = v.gone_is y ∙ ticks_in-put_other (K.declared + j) dead y gone ne

          step_here : ticks_in (K.declared + j) step' ≡ tick
          step_here = ap (ticks_in (K.declared + j)) v.step_is ∙ put_same tick (K.declared + j) step here.tick

          gone_here : ticks_in (K.declared + j) gone' ≡ dead
          gone_here = v.gone_is (K.declared + j) ∙ ticks_in-put_same (K.declared + j) dead gone

          -- what does not wait hears nothing of it
          unheard : (i : ℕ) → IsFollowed K F i → ticks_in i waiting' ≡ false → (y : ℕ) → reads K i y ≡ true
              → (ticks_in y step ≡ ticks_in y step') × (ticks_in y gone ≡ ticks_in y gone')
          unheard i followed quiet y read = grind (arith, common_steps, first_false, no_reader, here, step_here, gone_here, step_other, gone_other)

          old_next : (i : ℕ) → IsFollowed K F i → TreeWithin (λ y. reads K i y ≡ true) (next K step (gone_in gone) (tree_number old i))
          old_next i followed = next_within (λ y. reads K i y ≡ true) K (bodies_closed K ok) step (gone_in gone) (tree_number old i) (within i followed)

          -- a definition that is done with the old ticks is done with the new ones
          still : (i : ℕ) (t' : Tree) (b d : Bool) → IsFollowed K F i → ticks_in i waiting' ≡ false → b ≡ eval (formula_of (tree_number old i)) step
              → t' ≡ next K step (gone_in gone) (tree_number old i) → d ≡ dead_of (gone_in gone) t' →
              (b ≡ eval (formula_of (tree_number old i)) step') × (t' ≡ next K step' (gone_in gone') (tree_number old i)) × (d ≡ dead_of (gone_in gone') t')
              × (is_settled (gone_in gone) t' ≡ is_settled (gone_in gone') t')
          still i t' b d followed quiet ticks tree dies =
              grind (arith, common_steps, old_next, unheard, tick_same, next_same, bodies_closed, dead_same, settled_same)

          the_tree : tree_number trees' j ≡ next K step (gone_in gone) (tree_number old j)
          the_tree = grind (arith, common_steps, get_or-set_same, mine, here)

          visited : ticks_in j waiting' ≡ false → IsDone K old trees' step' gone' unsettled' j
          visited quiet = grind (arith, common_steps, still, mine, here, step_here, the_tree, gone_here, not-false, ticks_in-put_same)

          other : (i : ℕ) → (i ≡ j → ⊥) → IsFollowed K F i → ticks_in i waiting ≡ false → ticks_in i waiting' ≡ false
              → IsDone K old trees' step' gone' unsettled' i
          other i ne followed before quiet = grind (arith, common_steps, still, get_or-set_other, step_other, gone_other, ticks_in-put_other)

          -- what waits now has waited, or reads the clock
          waits : (m : ℕ) → ticks_in m waiting' ≡ true → IsFollowed K F m × (j < m)
          waits m h = grind (arith, common_steps, reader, reads_below)

          pub later : (m : ℕ) → ticks_in m waiting' ≡ true → j < m
          later m h = (waits m h).1

          waited : (i : ℕ) → (i ≡ j → ⊥) → ticks_in i waiting' ≡ false → ticks_in i waiting ≡ false
          waited i ne quiet = grind (arith, common_steps)

          -- A VISIT MORE
          pub one_more : IsGoing K F s gone₀ old trees' step' gone' waiting' unsettled'
          one_more = record {
            count = ap length v.trees_are ∙ length-set trees j (next K step (gone_in gone) (tree_number trees j)) ∙ g.count;
            done = λ i followed quiet. ⊎_elim
                (λ (e : i ≡ j). subst (IsDone K old trees' step' gone' unsettled') (sym e) (visited (ap (λ k. ticks_in k waiting') (sym e) ∙ quiet)))
                (λ (ne : i ≡ j → ⊥). other i ne followed (waited i ne quiet) quiet)
                (cases_eq i j);
            untouched = λ m i h l.
                let w = waits m h in
                let low = w.1 in
                let u = g.untouched j i is (omega (arith, l, low)) in
                let ne : i ≡ j → ⊥ = λ e. omega (arith, e, l, low) in
                let apart : K.declared + i ≡ K.declared + j → ⊥ = λ e. ne (omega (arith, e)) in
                record {
                  tick = step_other (K.declared + i) apart ∙ u.tick;
                  tree = ap (λ ts. tree_number ts i) v.trees_are
                      ∙ get_or-set_other trees j i (next K step (gone_in gone) (tree_number trees j)) TNever ne ∙ u.tree;
                  dead = gone_other (K.declared + i) apart ∙ u.dead;
                };
            followed = λ m h. (waits m h).0;
            few = λ m h. grind (arith, common_steps, ticks_in-put_other, mine);
            declared = λ y l. grind (arith, common_steps, step_other);
            outside = λ i none. grind (arith, common_steps, step_other, mine);
            alive = λ y l. grind (arith, common_steps, gone_other);
            ascends = ap is_ascending v.step_is ∙ put_ascends tick (K.declared + j) step g.ascends;
          }

      -- THE BEGINNING: what hears nothing does not wait, and is done
      pub begins : (unsettled waiting : List ℕ) → length old ≡ length K.definitions → are_below K.declared s ≡ true → is_ascending s ≡ true
          → AreKept K F old gone₀ unsettled →
          ((p : ℕ) → ticks_in p unsettled ≡ true → ticks_in p waiting ≡ true)
          → ((p y : ℕ) → ticks_in y s ≡ true → ticks_in p (slice_index_or readers y []) ≡ true → ticks_in p waiting ≡ true) →
          ((p : ℕ) → ticks_in p waiting ≡ true → IsFollowed K F p) → IsGoing K F s gone₀ old old s gone₀ waiting unsettled
      begins unsettled waiting count low ascends kept unsettled_wait heard followed =
          grind (arith, common_steps, unheard, stays, tells_nothing, NoneFrom-are_below, no_reader, tree_more)

      -- THE END, where nothing waits
      pub ends : (trees : List Tree) (step gone waiting unsettled : List ℕ) → IsGoing K F s gone₀ old trees step gone waiting unsettled
          → ((m : ℕ) → ticks_in m waiting ≡ false) → AreKept K F trees gone unsettled
      ends trees step gone waiting unsettled g none = grind (arith, common_steps, next_within, bodies_closed)

      pub passes : (trees : List Tree) (step gone waiting unsettled : List ℕ) → IsGoing K F s gone₀ old trees step gone waiting unsettled
          → ((m : ℕ) → ticks_in m waiting ≡ false) → IsPassed K F old s trees step gone
      passes trees step gone waiting unsettled g none = grind (arith, common_steps)

-- Which definitions wait and which read a clock, as the program finds it.

-- THE FIRST MEMBER of an ascending list is the least
pub first_least : (x : ℕ) (xs : List ℕ) → is_ascending (x ∷ xs) ≡ true → (m : ℕ) → ticks_in m (x ∷ xs) ≡ true → x ≤ m
first_least x xs h m is = grind (arith, common_steps, above)

pub first_is : (set left left' : List ℕ) (r : Option ℕ) → left ≡ set → is_ascending set ≡ true
    → MatchOption r ((left ≡ []) × (left' ≡ [])) (λ x. left ≡ x ∷ left') →
    IfSome r (λ i. (m : ℕ) → ticks_in m set ≡ true → i ≤ m)
first_is set left left' None is asc h = tt
first_is set left left' (Some x) is asc h = λ m t. first_least x left' (ap is_ascending (sym h ∙ is) ∙ asc) m (ap (ticks_in m) (sym h ∙ is) ∙ t)

-- one member of one set more
pub placed_more : (old : List (List ℕ)) (i clock : ℕ) (was now : List ℕ) → clock < length old → was ≡ slice_index_or old clock was → now ≡ with_clock i was →
    (y p : ℕ) → ticks_in p (slice_index_or (slice_set old clock now) y []) ≡ ((nat_eq p i && nat_eq y clock) || ticks_in p (slice_index_or old y []))
placed_more old i clock was now l at is y p =
    grind (arith, common_steps, get_or-set_same {A = List ℕ}, get_or-set_other {A = List ℕ}, get_or_default {X = List ℕ}, ticks_in-with_clock)

-- the least member, or a bound where there is none
abbrev pub lowest : ℕ → List ℕ → ℕ
lowest n [] = n
lowest n (x ∷ xs) = min x (lowest n xs)

pub lowest_below : (n : ℕ) (xs : List ℕ) (x : ℕ) → ticks_in x xs ≡ true → lowest n xs ≤ x
lowest_below n [] x is = let z : ⊥ = cc in absurd z
lowest_below n (y ∷ xs) x is = grind (arith, common_steps, lowest_below n xs x)

pub lowest_above : (n j : ℕ) (xs : List ℕ) → j < n → ((m : ℕ) → ticks_in m xs ≡ true → j < m) → j < lowest n xs
lowest_above n j [] l h = l
lowest_above n j (x ∷ xs) l h = grind (arith, common_steps, lowest_above n j xs l, h x)

pub lowest_most : (n : ℕ) (xs : List ℕ) → lowest n xs ≤ n
lowest_most n [] = omega arith
lowest_most n (x ∷ xs) = let l = lowest_most n xs in omega (arith, l)

-- WHO READS a clock that ticks
any_member : (p : ℕ → Bool) (xs : List ℕ) (x : ℕ) → ticks_in x xs ≡ true → p x ≡ true → list_any p xs ≡ true
any_member p [] x is h = let z : ⊥ = cc in absurd z
any_member p (y ∷ xs) x is h = grind (arith, common_steps, any_member p xs x)

member_any : (p : ℕ → Bool) (xs : List ℕ) → list_any p xs ≡ true → (x : ℕ) × (p x ≡ true)
member_any p [] h = let z : ⊥ = cc in absurd z
member_any p (y ∷ xs) h = ⊎_elim (λ (e : p y ≡ true). (y, e)) (λ (r : list_any p xs ≡ true). member_any p xs r) (or_cases (p y) (list_any p xs) h)

module _ (sets : List (List ℕ)) (unsettled : List ℕ) (s : Step) (waiting : List ℕ) (are : (p : ℕ) → ticks_in p waiting ≡ is_waiting sets unsettled s p) where
  pub unsettled_wait : (p : ℕ) → ticks_in p unsettled ≡ true → ticks_in p waiting ≡ true
  unsettled_wait p h = grind (arith, common_steps)

  pub readers_wait : (p y : ℕ) → ticks_in y s ≡ true → ticks_in p (slice_index_or sets y []) ≡ true → ticks_in p waiting ≡ true
  readers_wait p y is h = grind (arith, common_steps, any_member)

  pub followed_wait : (P : ℕ → Type 0) → ((p : ℕ) → ticks_in p unsettled ≡ true → P p) → ((p y : ℕ) → ticks_in p (slice_index_or sets y []) ≡ true → P p)
      → (p : ℕ) → ticks_in p waiting ≡ true → P p
  followed_wait P early reader p h = grind (arith, common_steps, member_any)

-- while the clocks that tick are gone through: some are left
abbrev pub IsHearing : List (List ℕ) → List ℕ → Step → List ℕ → List ℕ → Type 0
IsHearing sets unsettled s left waiting =
    (p : ℕ) → (ticks_in p waiting || list_any (λ y. ticks_in p (slice_index_or sets y [])) left) ≡ is_waiting sets unsettled s p

-- ONE READER of some clocks, while they are gone through: some are left
pub record IsAdding (i : ℕ) (clocks : List ℕ) (old : List (List ℕ)) (left : List ℕ) (sets : List (List ℕ)) : Type 0 where
  pub within : (y : ℕ) → ticks_in y left ≡ true → y < length sets
  pub added : (y p : ℕ) → ((nat_eq p i && ticks_in y left) || ticks_in p (slice_index_or sets y [])) ≡ ((nat_eq p i && ticks_in y clocks)
      || ticks_in p (slice_index_or old y []))

regroup : (a e u w : Bool) → ((a && u) || ((a && e) || w)) ≡ ((a && (e || u)) || w)
regroup a e u w = grind arith

pub adding_within : (i clock : ℕ) (clocks left left' : List ℕ) (old sets : List (List ℕ)) → left ≡ clock ∷ left' → IsAdding i clocks old left sets
    → clock < length sets
adding_within i clock clocks left left' old sets is so =
    so.within clock (ap (ticks_in clock) is ∙ ap (λ t. t || ticks_in clock left') (eq-eqb clock clock refl))

pub adding_more : (i clock : ℕ) (clocks left left' : List ℕ) (old sets : List (List ℕ)) (was now : List ℕ) → left ≡ clock ∷ left'
    → IsAdding i clocks old left sets →
    was ≡ slice_index_or sets clock was → now ≡ with_clock i was → IsAdding i clocks old left' (slice_set sets clock now)
adding_more i clock clocks left left' old sets was now is so at new = record {
  within = λ y h.
      let l = so.within y (ap (ticks_in y) is ∙ or_right (nat_eq y clock) (ticks_in y left') h) in
      let same = length-set sets clock now in
      omega (arith, l, same);
  added = λ y p.
      ap (λ t. (nat_eq p i && ticks_in y left') || t) (placed_more sets i clock was now (adding_within i clock clocks left left' old sets is so) at new y p)
      ∙ regroup (nat_eq p i) (nat_eq y clock) (ticks_in y left') (ticks_in p (slice_index_or sets y []))
      ∙ ap (λ clocks. (nat_eq p i && ticks_in y clocks) || ticks_in p (slice_index_or sets y [])) (sym is)
      ∙ so.added y p;
}

-- the clocks that an expression names, as a set that had none
pub named_alone : (e : Expression) (empty named : List ℕ) → empty ≡ [] → ((y : ℕ) → ticks_in y named ≡ (names_clock e y || ticks_in y empty)) → (y : ℕ)
    → ticks_in y named ≡ names_clock e y
named_alone e empty named is added y = grind (arith, common_steps)

-- THE TABLE OF READERS, of the definitions before number i
abbrev pub ReadBefore : System → List ℕ → ℕ → List (List ℕ) → Type 0
ReadBefore K F i sets = (y p : ℕ) → ticks_in p (slice_index_or sets y []) ≡ (nat_lt p i && (ticks_in (K.declared + p) F && reads K p y))

no_number : (K : System) (p y : ℕ) → length K.definitions ≤ p → reads K p y ≡ false
no_number K p y l = ap (λ o. named_by o y) (slice_get_past K.definitions p l)

pub read_all : (K : System) (F : List ℕ) (sets : List (List ℕ)) (n : ℕ) → n ≡ length K.definitions → length sets ≡ K.declared + length K.definitions
    → ReadBefore K F n sets → AreReaders K F sets
read_all K F sets n all count before = record { count = count; tell = λ y p. grind (arith, common_steps, no_number) }

-- what is as it is to be stays so
pub put_already : (number : ℕ) (member : Bool) (set : List ℕ) → ticks_in number set ≡ member → (x : ℕ)
    → ticks_in x set ≡ ticks_in x (put_clock number member set)
put_already number member set is x = grind (arith, common_steps, ticks_in-put_same, ticks_in-put_other)

-- A VISIT, as the program makes it and enters it
pub visit_is : (lay : Layout) (i clock : ℕ) (sets : List (List ℕ)) (row row' : List ℕ) (v : Stepped) (s s' : Step)
    (old middle new : Passage) → clock ≡ lay.system.now.declared + i
    → (is : IsVisited lay i row row' s old.gone old.unsettled middle.unsettled v) → middle ≡ record old { unsettled = middle.unsettled }
    → (e : IsEntered sets i clock v s s' middle new)
    → IsVisit lay.system.now sets (trees_from lay 0 row) (trees_from lay 0 row') s s' old.gone new.gone old.waiting new.waiting old.unsettled
    new.unsettled i v.tick v.dead is.known e.news
visit_is lay i clock sets row row' v s s' old middle new at is same e = grind (arith, common_steps)

-- THE NUMBERS of the followed definitions, one more
pub numbers_more : (D i : ℕ) (F set set' : List ℕ) (one : Bool) → ((p : ℕ) → ticks_in p set ≡ (nat_lt p i && ticks_in (D + p) F)) → set' ≡ put_clock i one set
    → one ≡ ticks_in (D + i) F →
    (p : ℕ) → ticks_in p set' ≡ (nat_lt p (i + 1) && ticks_in (D + p) F)
numbers_more D i F set set' one before is one_is p = grind (arith, common_steps, ticks_in-put_same, ticks_in-put_other)
