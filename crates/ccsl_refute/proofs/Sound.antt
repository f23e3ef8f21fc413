-- Valid lines hold of all values that satisfy the formulas.
use Rattle.std.proofs.Common.{◌≡◌, ℕ, zero, suc, ◌<◌, List, [], ◌∷◌, ◌++◌, length, Bool, true, false, not, ◌&&◌, ◌||◌, cond, Some, None, refl, sym, ap, ◌∙◌}
use Rattle.std.proofs.Common.{⊎_elim, inl, inr, subst, arith, slice_get, append_assoc, append-nil}
use Rattle.std.proofs.lemmas.Bool.{cases_eq, and_parts, or_parts, cases_Bool, both_ways}
use Rattle.std.proofs.lemmas.Bool.Decides.{eqb_tells}
use Rattle.ccsl_formula.specs.declared.truth3.Truth3.{Truth3}
use Rattle.ccsl_formula.specs.declared.truth3.Truth3.TheVariants.{Yes, No, Open}
use Rattle.ccsl_formula.specs.declared.scope.Scope.{Scope}
use Rattle.ccsl_formula.specs.Truth.{known_as, not3, Part, Assignment, with_value}
use Rattle.ccsl_formula.specs.Agreement.{Agrees, Fits}
use Rattle.ccsl_formula.specs.Formula.{Formula, truth, kleene, same}
use Rattle.ccsl_formula.proofs.Kleene.{no_false}
use Rattle.ccsl_formula.proofs.Tables.{not-fits}
use Rattle.ccsl_refute.specs.declared.line.Lit.{Lit}
use Rattle.ccsl_refute.specs.Literals.{falsified, is_no, lit_value, all_false, unit, are_proper, positives}
use Rattle.ccsl_refute.specs.declared.line.Line.{Line}
use Rattle.ccsl_refute.specs.declared.line.Line.TheVariants.{Nonempty, Item, Derived}
use Rattle.ccsl_refute.specs.Validity.{clause, fails_at, unit_at, fails_line, unit_line, closes, is_refuted, is_valid, ends_empty, bad_from, first_bad_line}
use Rattle.ccsl_refute.specs.Validity.{valid_from, are_valid}
use Rattle.ccsl_base.specs.Empty.{is_empty}
use Rattle.ccsl_refute.specs.Meaning.{AllTrue, Solves}
use Rattle.ccsl_refute.specs.Clauses.{holds, ClausesHold}
use Rattle.ccsl_refute.proofs.Lists.{snoc-get}
use Rattle.ccsl_formula.proofs.Folds.{not-is}
use Rattle.ccsl_formula.proofs.Same.{same-values}

other-sign : (a b : Bool) → same a b ≡ false → a ≡ not b
other-sign true true e = e
other-sign true false e = refl
other-sign false true e = refl
other-sign false false e = sym e

-- values under which a clause does not hold have each literal false
pub agrees-falsified : (v : Assignment) (ls : List Lit) → holds v ls ≡ false → Agrees v (falsified ls)
agrees-falsified v [] h = record { fits = λ x. inl refl }
agrees-falsified v (l ∷ ls) h =
    let rest = agrees-falsified v ls (or_parts (same (v l.clock) l.positive) (holds v ls) h).1 in
    let here = other-sign (v l.clock) l.positive (or_parts (same (v l.clock) l.positive) (holds v ls) h).0 in
    record {
      fits = λ x.
          ⊎_elim
          (λ t. inr (ap (λ b. cond b (known_as (not l.positive)) (falsified ls x)) t.0 ∙ ap known_as (sym here ∙ ap v (sym t.1))))
          (λ t. subst (λ b. Fits (cond b (known_as (not l.positive)) (falsified ls x)) (v x)) (sym t.0) (rest.fits x))
          (eqb_tells x l.clock);
    }

no-value : (t : Truth3) (b : Bool) → t ≡ No → Fits t b → b ≡ false
no-value t true e h = ⊎_elim (λ q. absurd (cc)) (λ q. absurd (cc)) h
no-value t false e h = refl

pub is-no : (t : Truth3) → is_no t ≡ true → t ≡ No
is-no Yes e = absurd (cc)
is-no No e = refl
is-no Open e = absurd (cc)

same_true_right : (w : Bool) → w ≡ same w true
same_true_right true = refl
same_true_right false = refl

lit-fits : (v : Assignment) (p : Part) (l : Lit) → Agrees v p → Fits (lit_value p l) (same (v l.clock) l.positive)
lit-fits v p l a =
    let w = v l.clock in
    elim l.positive as (λ b. Fits (cond b (p l.clock) (not3 (p l.clock))) (same w b)) [
      | true ↦ subst (λ x. Fits (p l.clock) x) (same_true_right w) (a.fits l.clock)
      | false ↦ subst (λ x. Fits (not3 (p l.clock)) x) (not-is w) (not-fits (p l.clock) w (a.fits l.clock))
    ]

false-lit : (v : Assignment) (p : Part) (l : Lit) → Agrees v p → lit_value p l ≡ No → same (v l.clock) l.positive ≡ false
false-lit v p l a e = no-value (lit_value p l) (same (v l.clock) l.positive) e (lit-fits v p l a)

pub all-false : (v : Assignment) (p : Part) (ls : List Lit) → Agrees v p → all_false p ls ≡ true → holds v ls ≡ false
all-false v p [] a h = refl
all-false v p (l ∷ ls) a h =
    ap (λ b. b || holds v ls) (false-lit v p l a (is-no (lit_value p l) ((and_parts _ _ h).0))) ∙ all-false v p ls a ((and_parts _ _ h).1)

or-none : (a b : Bool) → (a || b) ≡ true → b ≡ false → a ≡ true
or-none true b e f = refl
or-none false b e f = absurd (both_ways b f e)

pub unit-true : (v : Assignment) (p : Part) (ls : List Lit) (l : Lit) → Agrees v p → holds v ls ≡ true → unit p ls ≡ Some l → same (v l.clock) l.positive ≡ true
unit-true v p [] l a h u = absurd (cc)
unit-true v p (m ∷ ls) l a h u =
    (elim (lit_value p m) as (λ t. lit_value p m ≡ t → elim t [ Yes ↦ None | No ↦ unit p ls | Open ↦ cond (all_false p ls) (Some m) None ] ≡ Some l
    → same (v l.clock) l.positive ≡ true) [
      | Yes ↦ λ q e. absurd (cc)
      | No ↦ λ q e. unit-true v p ls l a (sym (ap (λ b. b || holds v ls) (false-lit v p m a q)) ∙ h) e
      | Open ↦ λ q. (elim (all_false p ls) as (λ b. all_false p ls ≡ b → cond b (Some m) None ≡ Some l → same (v l.clock) l.positive ≡ true) [
        | true ↦ λ f e. let is : m ≡ l =
            cc in subst (λ (k : Lit). same (v k.clock) k.positive ≡ true) is (or-none (same (v m.clock) m.positive) (holds v ls) h (all-false v p ls a f))
        | false ↦ λ f e. absurd (cc)
      ]) refl
    ]) refl u

pub agrees-with : (v : Assignment) (p : Part) (x : ℕ) (b : Bool) → Agrees v p → v x ≡ b → Agrees v (with_value p x b)
agrees-with v p x b a e = record {
  fits = λ y.
      ⊎_elim
      (λ t. inr (ap (λ c. cond c (known_as b) (p y)) t.0 ∙ ap known_as (sym e ∙ ap v (sym t.1))))
      (λ t. subst (λ c. Fits (cond c (known_as b) (p y)) (v y)) (sym t.0) (a.fits y))
      (eqb_tells y x);
}

fails-false : (v : Assignment) (d : ℕ) (lines : List Line) (p : Part) (j : ℕ) → ClausesHold d lines v → Agrees v p → fails_at d lines p j ≡ true → ⊥
fails-false v d lines p zero h a e = absurd (cc)
fails-false v d lines p (suc i) h a e =
    (elim (slice_get lines i) as (λ o. slice_get lines i ≡ o → fails_line d p o ≡ true → ⊥) [
      | None ↦ λ q f. absurd (cc)
      | Some x ↦ λ q f. absurd (both_ways (holds v (clause d x)) (all-false v p (clause d x) a f) (h.at i x q))
    ]) refl e

unit_at-true : (v : Assignment) (d : ℕ) (lines : List Line) (p : Part) (j : ℕ) (l : Lit) → ClausesHold d lines v → Agrees v p → unit_at d lines p j ≡ Some l →
    same (v l.clock) l.positive ≡ true
unit_at-true v d lines p zero l h a e = absurd (cc)
unit_at-true v d lines p (suc i) l h a e =
    (elim (slice_get lines i) as (λ o. slice_get lines i ≡ o → unit_line d p o ≡ Some l → same (v l.clock) l.positive ≡ true) [
      | None ↦ λ q f. absurd (cc)
      | Some x ↦ λ q f. unit-true v p (clause d x) l a (h.at i x q) f
    ]) refl e

-- lines whose clauses hold do not close
pub no-closing : (v : Assignment) (d : ℕ) (lines : List Line) (p : Part) (hints : List ℕ) → ClausesHold d lines v → Agrees v p → closes d lines p hints ≡ true
    → ⊥
no-closing v d lines p [] h a e = absurd (cc)
no-closing v d lines p (j ∷ []) h a e = fails-false v d lines p j h a e
no-closing v d lines p (j ∷ k ∷ js) h a e =
    (elim (unit_at d lines p j) as (λ o. unit_at d lines p j ≡ o
    → elim o [ None ↦ false | Some l ↦ closes d lines (with_value p l.clock l.positive) (k ∷ js) ] ≡ true → ⊥) [
      | None ↦ λ q f. absurd (cc)
      | Some l ↦ λ q f. no-closing v d lines (with_value p l.clock l.positive) (k ∷ js) h
          (agrees-with v p l.clock l.positive a (same-values (v l.clock) l.positive (unit_at-true v d lines p j l h a q))) f
    ]) refl e

pub item-true : (fs : List Formula) (v : Assignment) (k : ℕ) (f : Formula) → AllTrue fs v → slice_get fs k ≡ Some f → truth f v ≡ true
item-true [] v k f t e = absurd (cc)
item-true (g ∷ fs) v zero f t e = let q : g ≡ f = cc in subst (λ (h : Formula). truth h v ≡ true) q t.0
item-true (g ∷ fs) v (suc k) f t e = item-true fs v k f t.1 e

pub no-refuted : (fs : List Formula) (v : Assignment) (p : Part) (k : ℕ) → AllTrue fs v → Agrees v p → is_refuted p (slice_get fs k) ≡ true → ⊥
no-refuted fs v p k t a e =
    (elim (slice_get fs k) as (λ o. slice_get fs k ≡ o → is_refuted p o ≡ true → ⊥) [
      | None ↦ λ q f. absurd (cc)
      | Some g ↦ λ q f. absurd (both_ways (truth g v) (no_false g p v a (is-no (kleene g p) f)) (item-true fs v k g t q))
    ]) refl e

holds-append : (v : Assignment) (ls ks : List Lit) → holds v ls ≡ true → holds v (ls ++ ks) ≡ true
holds-append v [] ks h = absurd (cc)
holds-append v (l ∷ ls) ks h =
    (elim (same (v l.clock) l.positive) as (λ b. (b || holds v ls) ≡ true → (b || holds v (ls ++ ks)) ≡ true)
    [ true ↦ λ e. refl | false ↦ λ e. holds-append v ls ks e ]) h

holds-last : (v : Assignment) (ls : List Lit) (l : Lit) → same (v l.clock) l.positive ≡ true → holds v (ls ++ l ∷ []) ≡ true
holds-last v [] l h = ap (λ b. b || false) h
holds-last v (k ∷ ls) l h =
    elim (same (v k.clock) k.positive) as (λ b. (b || holds v (ls ++ l ∷ [])) ≡ true) [ true ↦ refl | false ↦ holds-last v ls l h ]

pub member-holds : (v : Assignment) (d x : ℕ) → x < d → v x ≡ true → holds v (positives d) ≡ true
member-holds v zero x l h = absurd (omega arith)
member-holds v (suc d) x l h =
    ⊎_elim
    (λ q. holds-last v (positives d) _ (ap (λ b. same b true) (ap v (sym q) ∙ h)))
    (λ n. holds-append v (positives d) _ (member-holds v d x (omega arith) h))
    (cases_eq x d)

-- a valid line holds where the earlier ones do
pub valid-holds : (scope : Scope) (fs : List Formula) (lines : List Line) (e : Line) (v : Assignment) → Solves scope fs v → ClausesHold scope.declared lines v →
    is_valid scope fs lines e ≡ true → holds v (clause scope.declared e) ≡ true
valid-holds scope fs lines Nonempty v s h e = member-holds v scope.declared s.member.0 s.member.1 s.member.2
valid-holds scope fs lines (Item k lits) v s h e =
    ⊎_elim (λ t. t) (λ t. absurd (no-refuted fs v (falsified lits) k s.all (agrees-falsified v lits t) ((and_parts (are_proper scope.named lits) _ e).1)))
    (cases_Bool (holds v lits))
valid-holds scope fs lines (Derived lits hints) v s h e =
    ⊎_elim (λ t. t)
    (λ t. absurd (no-closing v scope.declared lines (falsified lits) hints h (agrees-falsified v lits t) ((and_parts (are_proper scope.named lits) _ e).1)))
    (cases_Bool (holds v lits))

holds-snoc : (d : ℕ) (lines : List Line) (e : Line) (v : Assignment) → ClausesHold d lines v → holds v (clause d e) ≡ true → ClausesHold d (lines ++ e ∷ []) v
holds-snoc d lines e v h t = record {
  at = λ i x g. ⊎_elim (λ q. h.at i x q) (λ q. subst (λ (z : Line). holds v (clause d z) ≡ true) (sym q) t) (snoc-get lines e x i g);
}

-- all clauses of valid lines hold
valid-all : (scope : Scope) (fs : List Formula) (earlier lines : List Line) (v : Assignment) → Solves scope fs v → ClausesHold scope.declared earlier v →
    valid_from scope fs earlier lines ≡ true → ClausesHold scope.declared (earlier ++ lines) v
valid-all scope fs earlier [] v s h e = subst (λ (ls : List Line). ClausesHold scope.declared ls v) (sym (append-nil earlier)) h
valid-all scope fs earlier (x ∷ lines) v s h e =
    subst (λ (ls : List Line). ClausesHold scope.declared ls v) (append_assoc earlier (x ∷ []) lines)
    (valid-all scope fs (earlier ++ x ∷ []) lines v s
    (holds-snoc scope.declared earlier x v h (valid-holds scope fs earlier x v s h ((and_parts _ _ e).0)))
    ((and_parts (is_valid scope fs earlier x) _ e).1))

pub valid-clauses : (scope : Scope) (fs : List Formula) (lines : List Line) (v : Assignment) → Solves scope fs v → are_valid scope fs lines ≡ true
    → ClausesHold scope.declared lines v
valid-clauses scope fs lines v s e = valid-all scope fs [] lines v s (record { at = λ i x g. absurd (cc) }) e

empty-false : (v : Assignment) (ls : List Lit) → holds v ls ≡ true → is_empty ls ≡ true → ⊥
empty-false v [] h e = absurd (cc)
empty-false v (l ∷ ls) h e = absurd (cc)

not-empty : (d : ℕ) (lines : List Line) (v : Assignment) → ClausesHold d lines v → ends_empty d lines ≡ true → ⊥
not-empty d [] v h e = absurd (cc)
not-empty d (x ∷ []) v h e = empty-false v (clause d x) (h.at 0 x refl) e
not-empty d (x ∷ y ∷ lines) v h e = not-empty d (y ∷ lines) v (record { at = λ i z g. h.at (suc i) z g }) e

-- no bad line: all are valid, and the last clause is empty
pub good-lines : (scope : Scope) (fs : List Formula) (earlier lines : List Line) → bad_from scope fs earlier lines ≡ None →
    (valid_from scope fs earlier lines ≡ true) × (ends_empty scope.declared (earlier ++ lines) ≡ true)
good-lines scope fs earlier [] e = (
  refl,
  rw (append-nil earlier)
      ((elim (ends_empty scope.declared earlier) as (λ b. cond b None (Some (suc (length earlier))) ≡ None → b ≡ true) [
        | true ↦ λ q. refl
        | false ↦ λ q. absurd (cc)
      ]) e),
)
good-lines scope fs earlier (x ∷ lines) e =
    (elim (is_valid scope fs earlier x) as (λ b. elim b [ true ↦ bad_from scope fs (earlier ++ x ∷ []) lines | false ↦ Some (suc (length earlier)) ] ≡ None →
    ((b && valid_from scope fs (earlier ++ x ∷ []) lines) ≡ true) × (ends_empty scope.declared (earlier ++ x ∷ lines) ≡ true)) [
      | true ↦ λ q. let r = good-lines scope fs (earlier ++ x ∷ []) lines q in
          (r.0, subst (λ (ls : List Line). ends_empty scope.declared ls ≡ true) (append_assoc earlier (x ∷ []) lines) r.1)
      | false ↦ λ q. absurd (cc)
    ]) e

-- lines without a bad one: nothing satisfies the formulas
pub sound : (scope : Scope) (fs : List Formula) (lines : List Line) (v : Assignment) → first_bad_line scope fs lines ≡ None → Solves scope fs v → ⊥
sound scope fs lines v e s =
    let good = good-lines scope fs [] lines e in
    not-empty scope.declared lines v (valid-clauses scope fs lines v s good.0) good.1
