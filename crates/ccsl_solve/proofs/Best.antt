-- Why the first model is the best one.
use Rattle.std.proofs.Common.{◌≡◌, ◌≢◌, ◌⊎◌, ℕ, zero, suc, ◌<◌, List, [], ◌∷◌, Bool, true, false, not, Option, Some, None, slice_get}
use Rattle.std.proofs.Common.{refl, sym, ap, ◌∙◌, ⊎_elim, inl, inr, subst, arith}
use Rattle.std.proofs.lemmas.Bool.{cases_eq}
use Rattle.ccsl_formula.specs.declared.truth3.Truth3.TheVariants.{Open}
use Rattle.ccsl_formula.specs.Truth.{known_as, Part, Assignment, with_value}
use Rattle.ccsl_formula.specs.Agreement.{Agrees}
use Rattle.ccsl_formula.specs.Formula.{same}
use Rattle.ccsl_refute.specs.declared.line.Lit.{Lit}
use Rattle.ccsl_refute.specs.declared.line.Line.{Line}
use Rattle.ccsl_refute.specs.Meaning.{Solves}
use Rattle.ccsl_refute.specs.Below.{AreBelow}
use Rattle.ccsl_refute.proofs.Sound.{agrees-with, no-closing, valid-clauses, no-refuted as item-refuted}
use Rattle.ccsl_guide.specs.declared.problem.Problem.{Problem}
use Rattle.ccsl_guide.specs.declared.reason.Reason.{Reason}
use Rattle.ccsl_guide.specs.declared.reason.Reason.TheVariants.{Item, Clause}
use Rattle.ccsl_solve.specs.Under.{Under, is_yes, filled, with_lit, negated}
use Rattle.ccsl_solve.specs.Better.{is_better}
use Rattle.ccsl_solve.specs.Posed.{AreValid, asked}
use Rattle.ccsl_solve.specs.Reasons.{refutes}
use Rattle.ccsl_solve.specs.Conflict.{IsConflictOf, IsConflictWith}
use Rattle.ccsl_solve.specs.declared.conflict.Conflict.{Conflict}
use Rattle.ccsl_solve.specs.Plan.{AreSettled, IsTry, IsCause}
use Rattle.ccsl_solve.specs.Finds.{IsBestModel}
use Rattle.ccsl_solve.proofs.Tests.{test_other, known-not_open}
use Rattle.ccsl_solve.proofs.Parts.{under-self, under-trans, under-known, under-with}
use Rattle.ccsl_formula.proofs.Kept.{test_same}
use Rattle.ccsl_formula.proofs.Same.{same-self}

same-not : (b : Bool) → same (not b) b ≡ false
same-not true = refl
same-not false = refl

-- sets that are the same at each clock of the wishes
not-better : (ws : List Lit) (s t : Assignment) → ((i : ℕ) (l : Lit) → slice_get ws i ≡ Some l → s l.clock ≡ t l.clock) → is_better ws s t ≡ false
not-better [] s t h = refl
not-better (l ∷ ws) s t h =
    ap (λ b. elim b [ true ↦ is_better ws s t | false ↦ same (s l.clock) l.positive ]) (ap (λ b. same b (t l.clock)) (h 0 l refl) ∙ same-self (t l.clock))
    ∙ not-better ws s t (λ i m g. h (suc i) m g)

-- sets that are the same at each clock of the first n wishes, where the second one alone has the next wish
not-better-at : (ws : List Lit) (n : ℕ) (l : Lit) (s t : Assignment) → ((i : ℕ) (m : Lit) → i < n → slice_get ws i ≡ Some m → s m.clock ≡ t m.clock) →
    slice_get ws n ≡ Some l → s l.clock ≡ not l.positive → t l.clock ≡ l.positive → is_better ws s t ≡ false
not-better-at [] n l s t h g a b = absurd (cc)
not-better-at (k ∷ ws) zero l s t h g a b =
    let e : k ≡ l = cc in
    subst (λ (m : Lit). elim (same (s m.clock) (t m.clock)) [ true ↦ is_better ws s t | false ↦ same (s m.clock) m.positive ] ≡ false) (sym e)
    (ap (λ x. elim (same x (t l.clock)) [ true ↦ is_better ws s t | false ↦ same x l.positive ]) a
    ∙ ap (λ x. elim (same (not l.positive) x) [ true ↦ is_better ws s t | false ↦ same (not l.positive) l.positive ]) b
    ∙ ap (λ x. elim x [ true ↦ is_better ws s t | false ↦ same (not l.positive) l.positive ]) (same-not l.positive)
    ∙ same-not l.positive)
not-better-at (k ∷ ws) (suc n) l s t h g a b =
    ap (λ x. elim x [ true ↦ is_better ws s t | false ↦ same (s k.clock) k.positive ])
    (ap (λ x. same x (t k.clock)) (h 0 k (omega arith) refl) ∙ same-self (t k.clock))
    ∙ not-better-at ws n l s t (λ i m q f. h (suc i) m (omega arith) f) g a b

-- the value of a clock that a partial assignment knows, under values that agree with it
agreed : (t : Assignment) (p : Part) (x : ℕ) → Agrees t p → p x ≢ Open → p x ≡ known_as (t x)
agreed t p x a n = ⊎_elim (λ o. absurd (n o)) (λ e. e) (a.fits x)

yes-known : (b : Bool) → is_yes (known_as b) ≡ b
yes-known true = refl
yes-known false = refl

-- values that agree with p and a model of p are the same where p knows the clock
pub same-known : (t : Assignment) (p m : Part) (x : ℕ) → Agrees t p → Under p m → p x ≢ Open → t x ≡ filled m x
same-known t p m x a u n =
    sym (ap is_yes (under-known p m x u n ∙ agreed t p x a n) ∙ yes-known (t x))

-- the clock of a wish
pub wish-below : (n : ℕ) (ws : List Lit) (i : ℕ) (l : Lit) → AreBelow n ws → slice_get ws i ≡ Some l → l.clock < n
wish-below n [] i l b g = absurd (cc)
wish-below n (k ∷ ws) zero l b g = let e : k ≡ l = cc in subst (λ (m : Lit). m.clock < n) e b.0
wish-below n (k ∷ ws) (suc i) l b g = wish-below n ws i l b.1 g

pub model-self : (ws : List Lit) (n : ℕ) (p : Part) (t : Assignment) → AreBelow n ws → ((x : ℕ) → x < n → p x ≢ Open) →
    Agrees t p → is_better ws t (filled p) ≡ false
model-self ws n p t b all a = not-better ws t (filled p) (λ i l g. same-known t p p l.clock a (under-self p) (all l.clock (wish-below n ws i l b g)))

-- nothing that satisfies all formulas agrees with values that a reason refutes
no-refuted : (q : Problem) (lines : List Line) (p : Part) (r : Reason) (t : Assignment) → AreValid q lines →
    refutes q lines p r ≡ true → Agrees t p → Solves q.scope (asked q) t → ⊥
no-refuted q lines p (Item k) t v h a s = item-refuted (asked q) t p k s.all a h
no-refuted q lines p (Clause j) t v h a s = no-closing t q.scope.declared lines p (j ∷ []) (valid-clauses q.scope (asked q) lines t s v) a h

-- nor with values that are in conflict
no-conflict : (q : Problem) (lines : List Line) (p : Part) (c : Conflict) (t : Assignment) → AreValid q lines →
    IsConflictOf q lines p c → Agrees t p → Solves q.scope (asked q) t → ⊥
no-conflict q lines p c t v h a s =
    no-closing t q.scope.declared lines p _ (valid-clauses q.scope (asked q) lines t s v) a (h.closing p h.within (under-self p))

pub either : (a b : Bool) → (a ≡ b) ⊎ (a ≡ not b)
either true true = inl refl
either true false = inr refl
either false true = inr refl
either false false = inl refl

-- a model where the literal is tried first
pub first-best : {q : Problem} {lines : List Line} {p m : Part} {l : Lit} {by : Option Reason} {n : ℕ} → AreValid q lines →
    IsTry q lines p l by n → IsBestModel q (with_lit p l) m → IsBestModel q p m
first-best {q} {lines} {p} {m} {l} {by} {n} v y b = record {
  within = within;
  all = b.all;
  member = b.member;
  inside = b.inside;
  best = λ t a s.
      ⊎_elim (λ e. b.best t (agrees-with t p l.clock l.positive a e) s) (λ e. other t a s e by y.cause) (either (t l.clock) l.positive);
}
  where
    within : Under p m
    within = under-trans p (with_lit p l) m (under-with p l.clock l.positive y.free) b.within

    here : filled m l.clock ≡ l.positive
    here =
        let set = test_same l.clock l.clock (known_as l.positive) (p l.clock) refl in
        ap is_yes (under-known (with_lit p l) m l.clock b.within (known-not_open _ l.positive set) ∙ set) ∙ yes-known l.positive

    get-before : {A : Type 0} (xs : List A) (i n : ℕ) (x : A) → slice_get xs i ≡ Some x → slice_get xs n ≡ None → i < n
    get-before [] i n x g h = absurd (cc)
    get-before (y ∷ xs) i zero x g h = absurd (cc)
    get-before (y ∷ xs) zero (suc n) x g h = omega arith
    get-before (y ∷ xs) (suc i) (suc n) x g h = let r : i < n = get-before xs i n x g h in omega arith

    -- a solution without the literal has one wish less
    other : (t : Assignment) → Agrees t p → Solves q.scope (asked q) t → t l.clock ≡ not l.positive → (by : Option Reason) → IsCause q lines p l by n →
        is_better q.wishes.now t (filled m) ≡ false
    other t a s e (Some r) c = absurd (no-refuted q lines (with_lit p (negated l)) r t v c (agrees-with t p l.clock (not l.positive) a e) s)
    other t a s e None c =
        let settled : (i : ℕ) (k : Lit) → i < n → slice_get q.wishes.now i ≡ Some k → t k.clock ≡ filled m k.clock =
        λ i k r g. same-known t p m k.clock a within (y.settled i k r g) in
        ⊎_elim
        (λ g. not-better-at q.wishes.now n l t (filled m) settled g e here)
        (λ g. not-better q.wishes.now t (filled m) (λ i k f. settled i k (get-before q.wishes.now i n k f g) f))
        c

-- a model where the literal can't be had
pub second-best : {q : Problem} {lines : List Line} {p m : Part} {l : Lit} {c : Conflict} → AreValid q lines → p l.clock ≡ Open →
    IsConflictWith q lines p l c → IsBestModel q (with_lit p (negated l)) m → IsBestModel q p m
second-best {q} {lines} {p} {m} {l} {c} v free h b = record {
  within = under-trans p (with_lit p (negated l)) m (under-with p l.clock (not l.positive) free) b.within;
  all = b.all;
  member = b.member;
  inside = b.inside;
  best = λ t a s.
      ⊎_elim
      (λ e. absurd (no-conflict q lines (with_lit p l) c t v h.conflict (agrees-with t p l.clock l.positive a e) s))
      (λ e. b.best t (agrees-with t p l.clock (not l.positive) a e) s)
      (either (t l.clock) l.positive);
}

-- wishes that have values keep them
pub settled-with : (ws : List Lit) (n x : ℕ) (b : Bool) (p : Part) → AreSettled ws n p → AreSettled ws n (with_value p x b)
settled-with ws n x b p h = λ i l q g o.
    ⊎_elim
    (λ e. known-not_open (known_as b) b refl (sym (test_same l.clock x (known_as b) (p l.clock) e) ∙ o))
    (λ d. h i l q g (sym (test_other l.clock x (known_as b) (p l.clock) d) ∙ o))
    (cases_eq l.clock x)
