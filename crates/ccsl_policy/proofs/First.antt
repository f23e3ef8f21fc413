-- The first clock by priority at which two sets differ, and what follows for the chosen set.
use Rattle.std.proofs.Common.{◌≡◌, ◌⊎◌, ℕ, zero, suc, ◌<◌, List, Bool, true, false, not, refl, sym, ap, ◌∙◌, ⊎_elim, inl, inr, subst, arith}
use Rattle.std.proofs.lemmas.Bool.{cases_eq}
use Rattle.ccsl_base.specs.Clocks.{ticks_in}
use Rattle.ccsl_formula.specs.declared.scope.Scope.{Scope}
use Rattle.ccsl_formula.specs.Truth.{Assignment}
use Rattle.ccsl_formula.specs.Formula.{Formula, in_set}
use Rattle.ccsl_refute.specs.Meaning.{Solves}
use Rattle.ccsl_policy.specs.declared.policies.Policy.{Policy}
use Rattle.ccsl_policy.specs.declared.policies.Policy.TheVariants.{Min, Max}
use Rattle.ccsl_policy.specs.Priority.{word_of, comes_before, preferred}
use Rattle.ccsl_policy.specs.Chosen.{IsChosen}
use Rattle.ccsl_policy.proofs.Order.{before-trans, before-other}
use Rattle.ccsl_base.proofs.Sets.{by_case}
use Rattle.ccsl_solve.proofs.Best.{either}

-- the sets differ at this clock, and at none with a higher priority
pub record IsFirst (n : ℕ) (words : List ℕ) (s t : Assignment) : Type 0 where
  pub clock : ℕ
  pub below : clock < n
  pub differ : s clock ≡ not (t clock)
  pub before : (d : ℕ) → d < n → comes_before words d clock ≡ true → s d ≡ t d

last-or : (n d : ℕ) → d < suc n → (d < n) ⊎ (d ≡ n)
last-or n d l = ⊎_elim inr (λ e. let m : d < n = omega arith in inl m) (cases_eq d n)

more-first : (n : ℕ) (words : List ℕ) (s t : Assignment) (f : IsFirst n words s t) → (comes_before words n f.clock ≡ true → s n ≡ t n)
    → IsFirst (suc n) words s t
more-first n words s t f h = record {
  clock = f.clock;
  below = omega (arith, f.below);
  differ = f.differ;
  before = λ d l b.
      ⊎_elim (λ m. f.before d m b) (λ e. ap s e ∙ h (subst (λ x. comes_before words x f.clock ≡ true) e b) ∙ ap t (sym e)) (last-or n d l);
}

-- two sets are the same at all clocks below n, or there is a first one at which they differ
pub first-or-same : (n : ℕ) (words : List ℕ) (s t : Assignment) → IsFirst n words s t ⊎ ((d : ℕ) → d < n → s d ≡ t d)
first-or-same zero words s t = inr (λ d l. absurd (omega arith))
first-or-same (suc n) words s t =
    ⊎_elim
    (λ f.
    ⊎_elim
    (λ e. inl (more-first n words s t f (λ b. e)))
    (λ x.
    by_case (comes_before words n f.clock) (IsFirst (suc n) words s t ⊎ ((d : ℕ) → d < suc n → s d ≡ t d))
    (λ b.
    inl
    (record {
      clock = n;
      below = omega arith;
      differ = x;
      before = λ d l h.
          ⊎_elim (λ m. f.before d m (before-trans words d n f.clock h b))
          (λ e. let bad : true ≡ false = sym h ∙ ap (λ y. comes_before words y n) e ∙ before-other words n in absurd (cc)) (last-or n d l);
    }))
    (λ b. inl (more-first n words s t f (λ h. let bad : true ≡ false = sym h ∙ b in absurd (cc)))))
    (either (s n) (t n)))
    (λ all.
    ⊎_elim
    (λ e. inr (λ d l. ⊎_elim (λ m. all d m) (λ q. ap s q ∙ e ∙ ap t (sym q)) (last-or n d l)))
    (λ x.
    inl
    (record {
      clock = n;
      below = omega arith;
      differ = x;
      before = λ d l h.
          ⊎_elim (λ m. all d m)
          (λ e. let bad : true ≡ false = sym h ∙ ap (λ y. comes_before words y n) e ∙ before-other words n in absurd (cc)) (last-or n d l);
    }))
    (either (s n) (t n)))
    (first-or-same n words s t)

-- an admissible set that has the preferred value at the first clock at which it differs from the chosen one
not-preferred : (scope : Scope) (fs : List Formula) (policy : Policy) (words s : List ℕ) (t : Assignment) → IsChosen scope fs policy words s → Solves scope fs t
    → (f : IsFirst scope.declared words t (in_set s)) → t f.clock ≡ preferred policy (word_of words f.clock) → ⊥
not-preferred scope fs policy words s t h g f p =
    h.best t g (record { clock = f.clock; declared = f.below; differ = f.differ; preferred = p; before = f.before })

pub both-ways : (a b : Bool) → (a ≡ true → b ≡ true) → a ≡ not b → a ≡ false
both-ways true b h e = let yes : b ≡ true = h refl in let bad : true ≡ false = e ∙ ap not yes in absurd (cc)
both-ways false b h e = refl

pub minimal : (scope : Scope) (fs : List Formula) (words s : List ℕ) (t : Assignment) → IsChosen scope fs Min words s → Solves scope fs t →
    ((c : ℕ) → c < scope.declared → t c ≡ true → ticks_in c s ≡ true) → (c : ℕ) → c < scope.declared → ticks_in c s ≡ true → t c ≡ true
minimal scope fs words s t h g within c l e =
    ⊎_elim
    (λ f. absurd (not-preferred scope fs Min words s t h g f (both-ways (t f.clock) (ticks_in f.clock s) (within f.clock f.below) f.differ)))
    (λ all. all c l ∙ e)
    (first-or-same scope.declared words t (in_set s))

pub from-not : (a b : Bool) → (b ≡ true → a ≡ true) → a ≡ not b → a ≡ true
from-not true b h e = refl
from-not false true h e = h refl
from-not false false h e = e

pub maximal : (scope : Scope) (fs : List Formula) (words s : List ℕ) (t : Assignment) → IsChosen scope fs Max words s → Solves scope fs t →
    ((c : ℕ) → c < scope.declared → ticks_in c s ≡ true → t c ≡ true) → (c : ℕ) → c < scope.declared → t c ≡ true → ticks_in c s ≡ true
maximal scope fs words s t h g within c l e =
    ⊎_elim
    (λ f. absurd (not-preferred scope fs Max words s t h g f (from-not (t f.clock) (ticks_in f.clock s) (within f.clock f.below) f.differ)))
    (λ all. sym (all c l) ∙ e)
    (first-or-same scope.declared words t (in_set s))

swapped : (a b : Bool) → a ≡ not b → b ≡ not a
swapped true true e = absurd (cc)
swapped true false e = refl
swapped false true e = refl
swapped false false e = absurd (cc)

pub unique : (scope : Scope) (fs : List Formula) (policy : Policy) (words r s : List ℕ) → IsChosen scope fs policy words r → IsChosen scope fs policy words s →
    (c : ℕ) → c < scope.declared → ticks_in c r ≡ ticks_in c s
unique scope fs policy words r s h g c l =
    ⊎_elim
    (λ f.
    let p = preferred policy (word_of words f.clock) in
    ⊎_elim
    (λ e. absurd (not-preferred scope fs policy words s (in_set r) g h.solves f e))
    (λ e.
    let back : IsFirst scope.declared words (in_set s) (in_set r) =
    record { clock = f.clock; below = f.below; differ = swapped (ticks_in f.clock r) (ticks_in f.clock s) f.differ; before = λ d m b. sym (f.before d m b) } in
    absurd (not-preferred scope fs policy words r (in_set s) h g.solves back (swapped-preferred (ticks_in f.clock r) (ticks_in f.clock s) p f.differ e)))
    (either (ticks_in f.clock r) p))
    (λ all. all c l)
    (first-or-same scope.declared words (in_set r) (in_set s))
  where
    swapped-preferred : (a b p : Bool) → a ≡ not b → a ≡ not p → b ≡ p
    swapped-preferred true true p e q = absurd (cc)
    swapped-preferred true false true e q = absurd (cc)
    swapped-preferred true false false e q = refl
    swapped-preferred false true true e q = refl
    swapped-preferred false true false e q = absurd (cc)
    swapped-preferred false false p e q = absurd (cc)
