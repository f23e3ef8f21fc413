-- The chosen set: no admissible one is better, and there is one where a set is admissible. It is what the choice by formulas answers.
use Rattle.std.proofs.Common.{⊎_elim, ◌⊎◌, inl, inr, ◌≡◌, ℕ, List, [], ◌∷◌, Bool, true, false, not, Some, None, refl, sym, ap, ◌∙◌}
use Rattle.ccsl_base.specs.Clocks.{ticks_in}
use Rattle.ccsl_formula.specs.Formula.{in_set}
use Rattle.ccsl_refute.specs.declared.line.Line.{Line}
use Rattle.ccsl_kernel.specs.Syntax.{System}
use Rattle.ccsl_kernel.specs.Lives.{Step}
use Rattle.ccsl_kernel.specs.Accepted.{IsAccepted}
use Rattle.ccsl_kernel.specs.Runs.{IsAdmissible, declared_part}
use Rattle.ccsl_kernel.proofs.Sets.{ticks_in-below}
use Rattle.ccsl_items.specs.Formulas.{item_formulas, scope_of}
use Rattle.ccsl_items.specs.Laws.{IsNamedRun, IsSolution}
use Rattle.ccsl_items.proofs.Solutions.{admissible_solution, solution_admissible, blocked_ends}
use Rattle.ccsl_policy.specs.declared.policies.Policy.{Policy}
use Rattle.ccsl_policy.specs.Priority.{word_of, preferred}
use Rattle.ccsl_policy.specs.Better.{IsBetter}
use Rattle.ccsl_policy.specs.Chosen.{IsChosen, IsDeadlock}
use Rattle.ccsl_policy.proofs.First.{IsFirst, first-or-same}
use Rattle.ccsl_items.specs.Admissible.{admissible_sets}
use Rattle.ccsl_simulate.specs.Chosen.{is_better, is_best, chosen}
use Rattle.ccsl_simulate.specs.Laws.{IsBest}
use Rattle.ccsl_items.proofs.Among.{Among, found-among, none-found, only-found, none-passes, each-of, all-of}
use Rattle.ccsl_items.proofs.SetsBelow.{one_set}
use Rattle.ccsl_simulate.proofs.Better.{better-is, is-better, better-same}
use Rattle.ccsl_simulate.proofs.Best.{BestOf, best_of}
use Rattle.ccsl_items.proofs.Admissible.{is-admissible, admissible-set, admissible-is}

not-true : (b : Bool) → not b ≡ true → b ≡ true → ⊥
not-true true h e = cc
not-true false h e = cc

is-not : (b : Bool) → (b ≡ true → ⊥) → not b ≡ true
is-not true h = absurd (h refl)
is-not false h = refl

module _ (K : System) (T : List Step) (policy : Policy) (words : List ℕ) where
  -- the test for the best set
  abbrev test : Step → Bool
  test = is_best K.declared policy words (admissible_sets K T)

  best-is : (s : Step) → Among s (admissible_sets K T) → test s ≡ true → IsBest K policy words T s
  best-is s a h = record {
    admissible = admissible-is K T s a;
    best = λ t b better.
        not-true (is_better K.declared policy words t s)
        (each-of (λ t. not (is_better K.declared policy words t s)) (admissible_sets K T) h t (is-admissible K T t b))
        (is-better K.declared policy words t s better);
  }

  is-best : (s : Step) → ((t : Step) → Among t (admissible_sets K T) → IsBetter K.declared policy words (in_set t) (in_set s) → ⊥) → test s ≡ true
  is-best s h = all-of (λ t. not (is_better K.declared policy words t s)) (admissible_sets K T)
      (λ t a. is-not (is_better K.declared policy words t s) (λ e. h t a (better-is K.declared policy words t s e)))

  -- WHAT IS CHOSEN IS BEST
  pub chosen-best : (s : Step) → chosen K T policy words ≡ Some s → IsBest K policy words T s
  unfolding chosen
  chosen-best s h = let q = found-among test s (admissible_sets K T) h in best-is s q.0 q.1

  some_best : (xs : List Step) (s : Step) → Among s xs → BestOf K.declared policy words xs
  some_best [] s a = absurd a
  some_best (x ∷ xs) s a = best_of K.declared policy words x xs

  -- WHERE NONE IS CHOSEN, none is admissible
  pub none-admissible : chosen K T policy words ≡ None → (s : Step) → IsAdmissible K T s → ⊥
  unfolding chosen
  none-admissible h s a =
      let q = some_best (admissible_sets K T) s (is-admissible K T s a) in
      let bad : true ≡ false = sym (is-best q.set q.best) ∙ none-found test q.set (admissible_sets K T) h q.among in
      cc

  pub none-chosen : ((s : Step) → IsAdmissible K T s → ⊥) → chosen K T policy words ≡ None
  unfolding chosen
  none-chosen h = none-passes test (admissible_sets K T) (λ s a. absurd (h s (admissible-is K T s a)))

  -- two sets that no admissible one is better than are one
  best-one : (r s : Step) → IsBest K policy words T r → IsBest K policy words T s → r ≡ s
  best-one r s h g =
      one_set K.declared r s (admissible-set K T r (is-admissible K T r h.admissible)) (admissible-set K T s (is-admissible K T s g.admissible))
      (⊎_elim (λ f. absurd (apart f)) (λ same. same) (first-or-same K.declared words (in_set r) (in_set s)))
    where
      same_or_not : (a b : Bool) → (a ≡ b) ⊎ (a ≡ not b)
      same_or_not true true = inl refl
      same_or_not true false = inr refl
      same_or_not false true = inr refl
      same_or_not false false = inl refl

      swapped : (a b : Bool) → a ≡ not b → b ≡ not a
      swapped true true e = absurd (cc)
      swapped true false e = refl
      swapped false true e = refl
      swapped false false e = absurd (cc)

      other : (a b p : Bool) → a ≡ not b → a ≡ not p → b ≡ p
      other true true p e q = absurd (cc)
      other true false true e q = absurd (cc)
      other true false false e q = refl
      other false true true e q = refl
      other false true false e q = absurd (cc)
      other false false p e q = absurd (cc)

      apart : IsFirst K.declared words (in_set r) (in_set s) → ⊥
      apart f =
          let p = preferred policy (word_of words f.clock) in
          ⊎_elim
          (λ e. g.best r h.admissible (record { clock = f.clock; declared = f.below; differ = f.differ; preferred = e; before = f.before }))
          (λ e.
          h.best s g.admissible
          (record {
            clock = f.clock;
            declared = f.below;
            differ = swapped (ticks_in f.clock r) (ticks_in f.clock s) f.differ;
            preferred = other (ticks_in f.clock r) (ticks_in f.clock s) p f.differ e;
            before = λ d l b. sym (f.before d l b);
          }))
          (same_or_not (ticks_in f.clock r) p)

  -- THE BEST SET IS CHOSEN
  pub best-chosen : (s : Step) → IsBest K policy words T s → chosen K T policy words ≡ Some s
  unfolding chosen
  best-chosen s h =
      only-found test s (admissible_sets K T) (is-admissible K T s h.admissible)
      (is-best s (λ t a. h.best t (admissible-is K T t a)))
      (λ y a e. best-one y s (best-is y a e) h)

  module _ (ok : IsAccepted K) (run : IsNamedRun K T) where
    -- the declared members of what the choice by the items' formulas answers are the chosen set
    pub choice-chosen : (u : Step) → IsSolution K T u → IsChosen (scope_of K) (item_formulas K T) policy words u
        → chosen K T policy words ≡ Some (declared_part K u)
    choice-chosen u h c =
        best-chosen (declared_part K u)
        (record {
          admissible = solution_admissible K ok T run u h;
          best = λ t a better.
              let q = admissible_solution K ok T run t a in
              c.best (in_set q.0) q.1.solves
              (better-same K.declared policy words (in_set t) (in_set (declared_part K u)) (in_set q.0) (in_set u)
              (λ x l. ap (ticks_in x) (sym q.2) ∙ ticks_in-below K.declared x q.0 l)
              (λ x l. ticks_in-below K.declared x u l)
              better);
        })

    -- where it answers a deadlock, none is
    pub deadlock-chosen : (lines : List Line) → IsDeadlock (scope_of K) (item_formulas K T) lines → chosen K T policy words ≡ None
    deadlock-chosen lines d = none-chosen (blocked_ends K ok T run (λ set solves. d.none (in_set set) solves))
