-- Laws of conflicts.
use Rattle.std.proofs.Common.{◌≡◌, ◌≢◌, ◌⊎◌, ℕ, List, [], ◌∷◌, ◌++◌, length, Bool, true, false, not, ◌&&◌, cond, Some}
use Rattle.std.proofs.Common.{refl, sym, ap, ◌∙◌, ⊎_elim, inl, inr, subst, arith}
use Rattle.std.proofs.lemmas.Bool.{cases_eq}
use Rattle.ccsl_formula.specs.declared.scope.Scope.{Scope}
use Rattle.ccsl_formula.specs.declared.truth3.Truth3.TheVariants.{Open}
use Rattle.ccsl_formula.specs.Truth.{known_as, Part, with_value}
use Rattle.ccsl_formula.specs.Agreement.{is_open}
use Rattle.ccsl_formula.specs.Known.{with_truth, joined}
use Rattle.ccsl_refute.specs.declared.line.Lit.{Lit}
use Rattle.ccsl_refute.specs.declared.line.Line.{Line}
use Rattle.ccsl_refute.specs.declared.line.Line.TheVariants.{Derived}
use Rattle.ccsl_refute.specs.Literals.{falsified}
use Rattle.ccsl_refute.specs.Validity.{clause, unit_at, unit_line, closes, is_valid}
use Rattle.ccsl_refute.proofs.Closing.{closes-unit}
use Rattle.ccsl_solve.specs.Under.{Under}
use Rattle.ccsl_guide.specs.declared.problem.Problem.{Problem}
use Rattle.ccsl_solve.specs.Posed.{AreValid, asked}
use Rattle.ccsl_solve.specs.Conflict.{IsClause, IsConflict, IsDenial, Extends, AddsLines}
use Rattle.ccsl_solve.proofs.Tests.{test_other, open_or_not, open-test}
use Rattle.ccsl_solve.proofs.Parts.{under-self, under-trans, under-known, under-with, under-left}
use Rattle.ccsl_solve.proofs.Units.{unit-of}
use Rattle.ccsl_solve.proofs.Lines.{closes-more, adds-line}
use Rattle.ccsl_solve.proofs.Clauses.{clause-more, clause-last}
use Rattle.ccsl_formula.proofs.Kept.{test_same}

pub conflict-more : {scope : Scope} {lines new : List Line} {p q : Part} {hints : List ℕ} → Extends lines new →
    IsConflict scope lines p q hints → IsConflict scope new p q hints
conflict-more {scope} {lines} {hints} x c = record {
  within = c.within;
  closing = λ r a b. ap (λ ls. closes scope.declared ls r hints) x.is ∙ closes-more scope.declared lines x.added r hints (c.closing r a b);
  single = λ j e. clause-more x (c.single j e);
}

-- a value that the conflict does not use can be left out
pub without-value : {scope : Scope} {lines : List Line} {p q : Part} {hints : List ℕ} (x : ℕ) (b : Bool) → p x ≡ Open →
    IsConflict scope lines (with_value p x b) q hints → q x ≡ Open → IsConflict scope lines p q hints
without-value {p} {q} x b free c o = record {
  within = under-left p q x b c.within o;
  closing = λ r a u. c.closing r a (under-trans r p (with_value p x b) u (under-with p x b free));
  single = c.single;
}

-- one more line, by which a conflict denies its values
pub added-derived : (q : Problem) {lines new : List Line} {p part : Part} {hints : List ℕ} {n : ℕ} {lits : List Lit} → AreValid q lines →
    new ≡ lines ++ Derived lits hints ∷ [] → n ≡ length new →
    IsConflict q.scope lines p part hints → IsDenial q.scope.named lits part → AddsLines q lines new × IsClause q.scope new n part
added-derived q {lines} {part} {hints} {lits} v e m c d =
    let this : is_valid q.scope (asked q) lines (Derived lits hints) ≡ true =
    ap (λ b. b && closes q.scope.declared lines (falsified lits) hints) d.proper
    ∙ ap (λ (r : Part). closes q.scope.declared lines r hints) d.part
    ∙ c.closing part (under-self part) c.within
    in
    (adds-line q (Derived lits hints) e v this, clause-last lines (Derived lits hints) e m d)

-- where the second one knows nothing the first one counts
joined-first : (q1 q2 : Part) (y : ℕ) → q2 y ≡ Open → joined q1 q2 y ≡ q1 y
joined-first q1 q2 y e = ap (λ t. cond (is_open t) (q1 y) (q2 y)) e

joined-second : (q1 q2 : Part) (y : ℕ) → q2 y ≢ Open → joined q1 q2 y ≡ q2 y
joined-second q1 q2 y n =
    (elim (is_open (q2 y)) as (λ b. is_open (q2 y) ≡ b → cond b (q1 y) (q2 y) ≡ q2 y)
    [ true ↦ λ e. absurd (n (open-test (q2 y) e)) | false ↦ λ e. refl ]) refl

no-hints : (hints : List ℕ) (d : ℕ) (lines : List Line) (r : Part) → length hints ≡ 0 → closes d lines r hints ≡ true → ⊥
no-hints [] d lines r e h = absurd (cc)
no-hints (j ∷ hints) d lines r e h = absurd (omega arith)

-- a conflict at each value of a clock gives one without it
module _ (scope : Scope) (lines : List Line) (p q1 q2 : Part) (x j : ℕ) (b : Bool) (hints : List ℕ)
    (u1 : Under q1 (with_value p x b)) (k1 : q1 x ≢ Open) (cl : IsClause scope lines j q1)
    (c2 : IsConflict scope lines (with_value p x (not b)) q2 hints)
    (free : p x ≡ Open) where
  whole : Part
  whole = with_truth (joined q2 q1) x Open

  whole-there : (y : ℕ) → (y ≡ x → ⊥) → whole y ≡ joined q2 q1 y
  unfolding whole
  whole-there y d = test_other y x Open (joined q2 q1 y) d

  whole-here : (y : ℕ) → y ≡ x → whole y ≡ Open
  unfolding whole
  whole-here y s = test_same y x Open (joined q2 q1 y) s

  -- what q1 and q2 know off x is what p knows
  first-there : (y : ℕ) → (y ≡ x → ⊥) → (q1 y ≡ Open) ⊎ (q1 y ≡ p y)
  first-there y d = ⊎_elim inl (λ e. inr (e ∙ test_other y x (known_as b) (p y) d)) (u1.at y)

  second-there : (y : ℕ) → (y ≡ x → ⊥) → (q2 y ≡ Open) ⊎ (q2 y ≡ p y)
  second-there y d = ⊎_elim inl (λ e. inr (e ∙ test_other y x (known_as (not b)) (p y) d)) (c2.within.at y)

  whole-within : Under whole p
  whole-within = record {
    at = λ y.
        ⊎_elim (λ s. inl (whole-here y s))
        (λ d.
        let same = whole-there y d in
        ⊎_elim
        (λ o. let one = joined-first q2 q1 y o in
        ⊎_elim (λ e. inl (same ∙ one ∙ e)) (λ e. inr (same ∙ one ∙ e)) (second-there y d))
        (λ n. let one = joined-second q2 q1 y n in
        ⊎_elim (λ e. absurd (n e)) (λ e. inr (same ∙ one ∙ e)) (first-there y d))
        (open_or_not (q1 y)))
        (cases_eq y x);
  }

  has-hints : length hints ≡ 0 → ⊥
  has-hints e = no-hints hints scope.declared lines q2 e (c2.closing q2 (under-self q2) c2.within)

  module _ (r : Part) (a : Under whole r) (u : Under r p) where
    first-known : (y : ℕ) → (y ≡ x → ⊥) → q1 y ≢ Open → r y ≡ q1 y
    first-known y d k =
        let same : whole y ≡ q1 y = whole-there y d ∙ joined-second q2 q1 y k in
        under-known whole r y a (λ o. k (sym same ∙ o)) ∙ same

    second-known : (y : ℕ) → (y ≡ x → ⊥) → q2 y ≢ Open → r y ≡ q2 y
    second-known y d k =
        let from : q2 y ≡ p y = ⊎_elim (λ o. absurd (k o)) (λ e. e) (second-there y d) in
        ⊎_elim
        (λ o. let same : whole y ≡ q2 y = whole-there y d ∙ joined-first q2 q1 y o in under-known whole r y a (λ e. k (sym same ∙ e)) ∙ same)
        (λ n.
        let other : q1 y ≡ p y = ⊎_elim (λ o. absurd (n o)) (λ f. f) (first-there y d) in
        first-known y d n ∙ other ∙ sym from)
        (open_or_not (q1 y))

    open-here : r x ≡ Open
    open-here = ⊎_elim (λ o. o) (λ e. e ∙ free) (u.at x)

    sign-here : q1 x ≡ known_as b
    sign-here = ⊎_elim (λ o. absurd (k1 o)) (λ e. e ∙ test_same x x (known_as b) (p x) refl) (u1.at x)

    gives : unit_at scope.declared lines r j ≡ Some (record { clock = x; positive = not b })
    gives =
        let c = clause scope.declared cl.line in
        ap (unit_line scope.declared r) cl.found
        ∙ unit-of scope.named x b r c cl.proper open-here (ap (λ (q : Part). q x) cl.part ∙ sign-here)
        (λ y d k. let same : falsified c y ≡ q1 y = ap (λ (q : Part). q y) cl.part in first-known y d (λ o. k (same ∙ o)) ∙ sym same)

    next-within : Under q2 (with_value r x (not b))
    next-within = record {
      at = λ y.
          ⊎_elim inl
          (λ k.
          inr
          (⊎_elim
          (λ s. ⊎_elim (λ o. absurd (k o)) (λ e. e ∙ test_same y x (known_as (not b)) (p y) s) (c2.within.at y)
          ∙ sym (test_same y x (known_as (not b)) (r y) s))
          (λ d. sym (test_other y x (known_as (not b)) (r y) d ∙ second-known y d k))
          (cases_eq y x)))
          (open_or_not (q2 y));
    }

    next-under : Under (with_value r x (not b)) (with_value p x (not b))
    next-under = record {
      at = λ y.
          ⊎_elim (λ s. inr (test_same y x (known_as (not b)) (r y) s ∙ sym (test_same y x (known_as (not b)) (p y) s)))
          (λ d.
          let there = test_other y x (known_as (not b)) (r y) d in
          ⊎_elim (λ o. inl (there ∙ o)) (λ e. inr (there ∙ e ∙ sym (test_other y x (known_as (not b)) (p y) d))) (u.at y))
          (cases_eq y x);
    }

    closing : closes scope.declared lines r (j ∷ hints) ≡ true
    closing =
        closes-unit scope.declared lines r j hints (record { clock = x; positive = not b }) has-hints gives
        ∙ c2.closing (with_value r x (not b)) next-within next-under

  pub resolves : (q : Part) (hs : List ℕ) → q ≡ with_truth (joined q2 q1) x Open → hs ≡ j ∷ hints → IsConflict scope lines p q hs
  unfolding whole
  resolves q hs e h =
      subst (λ (w : Part). IsConflict scope lines p w hs) (sym e)
      (subst (λ ks. IsConflict scope lines p whole ks) (sym h)
      (record { within = whole-within; closing = closing; single = λ i f. let none : hints ≡ [] = cc in absurd (has-hints (ap length none)) }))
