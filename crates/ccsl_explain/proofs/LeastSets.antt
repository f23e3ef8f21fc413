-- Least sets: there is one, and the solver finds it by the wish that no clock ticks.
use Rattle.std.proofs.Common.{◌≡◌, ℕ, zero, suc, ◌<◌, List, [], ◌∷◌, ◌++◌, Bool, true, false, refl, sym, ap, ◌∙◌, ⊎_elim, inl, arith, append_assoc, append-nil}
use Rattle.std.proofs.Common.{◌+◌}
use Rattle.std.specs.List.{AllZip}
use Rattle.std.proofs.lemmas.Bool.{cases_eq}
use Rattle.ccsl_base.specs.Clocks.{ticks_in, is_ascending}
use Rattle.ccsl_formula.specs.declared.scope.Scope.{Scope}
use Rattle.ccsl_formula.specs.Truth.{Assignment, Part}
use Rattle.ccsl_formula.specs.declared.truth3.Truth3.TheVariants.{Open}
use Rattle.ccsl_formula.specs.Formula.{Formula, same, in_set}
use Rattle.ccsl_refute.specs.Below.{AreBelow}
use Rattle.ccsl_refute.specs.declared.line.Lit.{Lit}
use Rattle.ccsl_solve.specs.Answers.{IsBestStep}
use Rattle.ccsl_solve.specs.Better.{is_better}
use Rattle.ccsl_explain.specs.Laws.{LeastSetsAreOne}
use Rattle.ccsl_explain.specs.Least.{IsLesser, IsOther, IsLeastWithout}
use Rattle.ccsl_explain.specs.LeastSteps.{negatives, IsLeastStep}
use Rattle.ccsl_explain.specs.Masked.{IsMasked}
use Rattle.ccsl_explain.proofs.Masks.{solves-masked, satisfies-masked}
use Rattle.ccsl_base.proofs.Ascending.{same-members}
use Rattle.ccsl_formula.proofs.Same.{same-self}

-- of two least sets none has a first clock that the other has not
module _ (scope : Scope) (fs : List Formula) (core : List ℕ) (i : ℕ) (s t : List ℕ) (h : IsLeastWithout scope fs core i s)
    (k : IsLeastWithout scope fs core i t) where
  at-clock : (c : ℕ) → ((d : ℕ) → d < c → ticks_in d s ≡ ticks_in d t) → (a b : Bool) → ticks_in c s ≡ a → ticks_in c t ≡ b → a ≡ b
  at-clock c before true true p q = refl
  at-clock c before false false p q = refl
  at-clock c before false true p q = absurd (k.least (in_set s) h.satisfies (record { clock = c; named = k.named c q; out = p; in_other = q; before = before }))
  at-clock c before true false p q =
      absurd (h.least (in_set t) k.satisfies (record { clock = c; named = h.named c p; out = q; in_other = p; before = λ d l. sym (before d l) }))

  agree : (n c : ℕ) → c < n → ticks_in c s ≡ ticks_in c t
  agree zero c l = absurd (omega arith)
  agree (suc n) c l = at-clock c (λ d m. agree n d (omega arith)) (ticks_in c s) (ticks_in c t) refl refl

-- there is one least set without a member of a core
pub one-least : (scope : Scope) (fs : List Formula) → LeastSetsAreOne scope fs
one-least scope fs core i s t h k = same-members s t h.ascending k.ascending (λ x. agree scope fs core i s t h k (suc x) x (omega arith))

pub below-append : (n : ℕ) (ls ks : List Lit) → AreBelow n ls → AreBelow n ks → AreBelow n (ls ++ ks)
below-append n [] ks a b = b
below-append n (l ∷ ls) ks a b = (a.0, below-append n ls ks a.1 b)

pub negatives-below : (n m : ℕ) → (k : ℕ) → k + m ≡ n → AreBelow n (negatives m)
negatives-below n zero k e = tt
negatives-below n (suc m) k e = below-append n (negatives m) _ (negatives-below n m (suc k) (omega arith)) (omega arith, tt)

-- by wishes for clocks at which two sets don't differ none is better
same-better : (n : ℕ) (ls : List Lit) (t s : Assignment) → ((d : ℕ) → d < n → t d ≡ s d) → is_better (negatives n ++ ls) t s ≡ is_better ls t s
same-better zero ls t s h = refl
same-better (suc n) ls t s h =
    ap (λ ks. is_better ks t s) (append_assoc (negatives n) _ ls)
    ∙ same-better n _ t s (λ d l. h d (omega arith))
    ∙ ap (λ b. elim b [ true ↦ is_better ls t s | false ↦ same (t n) false ]) (ap (λ b. same b (s n)) (h n (omega arith)) ∙ same-self (s n))

-- a lesser set is the better one
lesser-better : (n : ℕ) (ls : List Lit) (t s : Assignment) → IsLesser n t s → is_better (negatives n ++ ls) t s ≡ true
lesser-better zero ls t s h = absurd (omega (arith, h.named))
lesser-better (suc n) ls t s h =
    ap (λ ks. is_better ks t s) (append_assoc (negatives n) _ ls)
    ∙ ⊎_elim
    (λ e. same-better n _ t s (λ d l. h.before d (omega (arith, e)))
    ∙ ap (λ b. elim b [ true ↦ is_better ls t s | false ↦ same (t n) false ]) (differ (t n) (s n) (ap t (sym e) ∙ h.out) (ap s (sym e) ∙ h.in_other))
    ∙ ap (λ b. same b false) (ap t (sym e) ∙ h.out))
    (λ d. lesser-better n _ t s (record { clock = h.clock; named = omega (arith, d, h.named); out = h.out; in_other = h.in_other; before = h.before }))
    (cases_eq h.clock n)
  where
    differ : (a b : Bool) → a ≡ false → b ≡ true → same a b ≡ false
    differ true b p q = absurd (cc)
    differ false true p q = refl
    differ false false p q = absurd (cc)

-- the best set by the wish that no clock ticks is the least one
pub best-least : (scope : Scope) (fs : List Formula) (wishes : List Lit) (p : Part) (s : List ℕ) → wishes ≡ negatives scope.named → ((x : ℕ) → p x ≡ Open) →
    is_ascending s ≡ true → IsBestStep scope fs wishes p s → IsLeastStep scope fs s
best-least scope fs wishes p s e free a h = record {
  ascending = a;
  named = h.inside;
  solves = h.solves;
  least = λ t g l.
      let better : is_better wishes t (in_set s) ≡ true =
      ap (λ ws. is_better ws t (in_set s)) (e ∙ sym (append-nil (negatives scope.named))) ∙ lesser-better scope.named [] t (in_set s) l in
      let not : is_better wishes t (in_set s) ≡ false = h.best t (record { fits = λ x. inl (free x) }) g in
      let bad : true ≡ false = sym better ∙ not in
      absurd (cc);
}

-- the least set that satisfies the formulas of the other members
pub least-without : (scope : Scope) (fs ms : List Formula) (core : List ℕ) (i : ℕ) (s : List ℕ) → IsMasked fs (IsOther core i) ms → IsLeastStep scope ms s →
    IsLeastWithout scope fs core i s
least-without scope fs ms core i s m h = record {
  ascending = h.ascending;
  named = h.named;
  satisfies = satisfies-masked scope fs ms (IsOther core i) (in_set s) m h.solves;
  least = λ t g l. h.least t (solves-masked scope fs ms (IsOther core i) t m g) l;
}

-- one more item with a set
pub zip-push : {A B : Type 0} (R : A → B → Type 0) (xs : List A) (ys : List B) (x : A) (y : B) → AllZip R xs ys → R x y → AllZip R (xs ++ x ∷ []) (ys ++ y ∷ [])
zip-push R [] [] x y h r = (r, tt)
zip-push R [] (b ∷ ys) x y h r = absurd h
zip-push R (a ∷ xs) [] x y h r = absurd h
zip-push R (a ∷ xs) (b ∷ ys) x y h r = (h.0, zip-push R xs ys x y h.1 r)
