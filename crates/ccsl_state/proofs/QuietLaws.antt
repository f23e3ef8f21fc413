-- A tree that hears nothing tells nothing and stays, for each operator.
use Rattle.std.proofs.lemmas.Grind.{common_steps}
use Rattle.std.proofs.Common.{arith, ◌≡◌, ℕ, List, [], ◌∷◌, length, Bool, true, false, not, ◌&&◌, Some, slice_get, refl, sym, ap, ap₂, ◌∙◌}
use Rattle.std.proofs.lemmas.Bool.{and_from}
use Rattle.ccsl_formula.specs.Formula.{eval}
use Rattle.ccsl_kernel.specs.Syntax.{Expression, System, root_of}
use Rattle.ccsl_kernel.specs.Lives.{Step}
use Rattle.ccsl_kernel.specs.Meaning.{dead_below}
use Rattle.ccsl_kernel.specs.Accepted.{IsAccepted}
use Rattle.ccsl_kernel.proofs.Scoped.{NamesBelow}
use Rattle.ccsl_kernel.proofs.AcceptedParts.{accepted_scoped}
use Rattle.ccsl_kernel.proofs.WithinLaws.{names_more, actuals_more}
use Rattle.ccsl_state.specs.Tree.{One, Two, Tree, TName, TNever, TOne, TTwo, TThen, one_ticks, one_next, two_ticks, two_next, set_first, opening}
use Rattle.ccsl_state.specs.Tree.{next, formula_of}
use Rattle.ccsl_state.specs.Within.{TreeWithin}
use Rattle.ccsl_state.specs.Reach.{names_clock}
use Rattle.ccsl_state.specs.Quiet.{named_by, reads, ReadsNoMore, IsUnheard, is_settled, IsQuiet, StaysAsItIs, BearsSettled}
use Rattle.ccsl_state.proofs.WithinLaws.{one_eval, two_eval, names_within, opening_within, grown_within, dead_same}

one_silent : (o : One) → one_ticks o false ≡ false
one_silent o = grind (arith, common_steps)

two_silent : (o : Two) → two_ticks o false false ≡ false
two_silent o = grind (arith, common_steps)

one_still : (o : One) → one_next o false ≡ o
one_still o = grind (arith, common_steps)

unmarked : (waiting : List Bool) → set_first false waiting ≡ waiting
unmarked [] = refl
unmarked (x ∷ xs) = refl

two_still : (o : Two) → two_next o false false ≡ o
two_still o = grind (arith, common_steps, unmarked)

-- NOTHING HEARD, NOTHING TOLD
pub tells_nothing : (s : Step) (t : Tree) → IsUnheard s t → eval (formula_of t) s ≡ false
tells_nothing s (TName x) h = h
tells_nothing s TNever h = refl
tells_nothing s (TOne o a) h = one_eval s o (formula_of a) ∙ ap (one_ticks o) (tells_nothing s a h) ∙ one_silent o
tells_nothing s (TTwo o a d) h = two_eval s o (formula_of a) (formula_of d) ∙ ap₂ (two_ticks o) (tells_nothing s a h.0) (tells_nothing s d h.1) ∙ two_silent o
tells_nothing s (TThen a d ρ) h = tells_nothing s a h.0

module _ (K : System) (s : Step) (gone : ℕ → Bool) where
  -- NOTHING HEARD, NOTHING MOVED
  pub stays : (t : Tree) → IsUnheard s t → is_settled gone t ≡ true → next K s gone t ≡ t
  stays (TName x) h settled = refl
  stays TNever h settled = refl
  stays (TOne o a) h settled = ap₂ TOne (ap (one_next o) (tells_nothing s a h) ∙ one_still o) (stays a h settled)
  stays (TTwo o a d) h settled = grind (arith, common_steps, tells_nothing, two_still, stays a, stays d)
  stays (TThen a d ρ) h settled = grind (arith, common_steps, stays a)

  -- UNSETTLED LASTS ONE STEP
  pub settles : (t : Tree) → BearsSettled K gone t → is_settled gone (next K s gone t) ≡ true
  settles (TName x) h = refl
  settles TNever h = refl
  settles (TOne o a) h = settles a h
  settles (TTwo o a d) h = and_from (is_settled gone (next K s gone a)) (is_settled gone (next K s gone d)) (settles a h.0) (settles d h.1)
  settles (TThen a d ρ) h = grind (arith, common_steps, settles a)

module _ (P : ℕ → Type 0) (gone gone' : ℕ → Bool) (same : (x : ℕ) → P x → gone x ≡ gone' x) where
  pub settled_same : (t : Tree) → TreeWithin P t → is_settled gone t ≡ is_settled gone' t
  settled_same (TName x) h = refl
  settled_same TNever h = refl
  settled_same (TOne o a) h = settled_same a h
  settled_same (TTwo o a d) h = ap₂ (λ c e. c && e) (settled_same a h.0) (settled_same d h.1)
  settled_same (TThen a d ρ) h = ap₂ (λ c e. not c && e) (dead_same P gone gone' same a h.0) (settled_same a h.0)

-- what names clocks with P only names clocks with Q only, where Q follows from P
module _ (P Q : ℕ → Type 0) (more : (y : ℕ) → P y → Q y) where
  pub tree_more : (t : Tree) → TreeWithin P t → TreeWithin Q t
  tree_more (TName x) h = more x h
  tree_more TNever h = tt
  tree_more (TOne o a) h = tree_more a h
  tree_more (TTwo o a d) h = (tree_more a h.0, tree_more d h.1)
  tree_more (TThen a d ρ) h = (tree_more a h.0, names_more P Q more d h.1, actuals_more P Q more ρ h.2)

pub stays_as_it_is : (K : System) (s : Step) (gone gone' : ℕ → Bool) (t : Tree) → IsQuiet s gone gone' t → StaysAsItIs K s gone gone' t
stays_as_it_is K s gone gone' t q =
    let P = λ (x : ℕ). gone x ≡ gone' x in
    let settled : is_settled gone' t ≡ true = sym (settled_same P gone gone' (λ x h. h) t q.alive) ∙ q.settled in
    record {
      tree = stays K s gone' t q.unheard settled;
      dead = sym (dead_same P gone gone' (λ x h. h) t q.alive);
      settled = settled;
    }

module _ (K : System) (ok : IsAccepted K) where
  pub bodies_closed : (g m : ℕ) → NamesBelow 0 (root_of K g m)
  bodies_closed = (accepted_scoped K ok).bodies

  read_as : (i : ℕ) (e : Expression) → slice_get K.definitions i ≡ Some e → (y : ℕ) → names_clock e y ≡ true → reads K i y ≡ true
  read_as i e is y named = ap (λ o. named_by o y) is ∙ named

  pub opening_reads : (i : ℕ) (e : Expression) → slice_get K.definitions i ≡ Some e → TreeWithin (λ y. reads K i y ≡ true) (opening K e [])
  opening_reads i e is = opening_within (λ y. reads K i y ≡ true) K bodies_closed e [] (names_within (λ y. reads K i y ≡ true) e (read_as i e is)) tt

  pub reads_no_more : ReadsNoMore K
  reads_no_more i e T x is = grown_within (λ y. reads K i y ≡ true) K bodies_closed T (dead_below K T x) (opening K e []) 0 (length T) (opening_reads i e is)
