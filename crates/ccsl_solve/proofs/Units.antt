-- What a clause gives under a partial assignment.
use Rattle.std.proofs.Common.{◌≡◌, ◌≢◌, ℕ, List, [], ◌∷◌, Bool, true, false, not, ◌&&◌, cond, Some, None, nat_lt}
use Rattle.std.proofs.Common.{refl, sym, ap, ap₂, ◌∙◌, ⊎_elim, inl, inr}
use Rattle.std.proofs.lemmas.Bool.{cases_eq, and_parts, not-true}
use Rattle.ccsl_formula.specs.declared.truth3.Truth3.{Truth3}
use Rattle.ccsl_formula.specs.declared.truth3.Truth3.TheVariants.{Yes, No, Open}
use Rattle.ccsl_formula.specs.Truth.{known_as, not3, Part}
use Rattle.ccsl_formula.specs.Agreement.{is_open}
use Rattle.ccsl_refute.specs.declared.line.Lit.{Lit}
use Rattle.ccsl_refute.specs.Literals.{falsified, is_no, lit_value, all_false, unit, names, are_proper}
use Rattle.ccsl_refute.proofs.Proper.{named-known}
use Rattle.ccsl_refute.proofs.Sound.{is-no}
use Rattle.ccsl_solve.specs.Under.{Under}
use Rattle.ccsl_solve.proofs.Tests.{test_other, known-not_open}
use Rattle.ccsl_solve.proofs.Parts.{under-known}
use Rattle.ccsl_formula.proofs.Kept.{test_same}

-- a literal whose clock has the value that makes it false
lit-no : (r : Part) (l : Lit) → r l.clock ≡ known_as (not l.positive) → lit_value r l ≡ No
lit-no r l e =
    (elim l.positive as (λ b. r l.clock ≡ known_as (not b) → cond b (r l.clock) (not3 (r l.clock)) ≡ No) [ true ↦ λ h. h | false ↦ λ h. ap not3 h ]) e

lit-open : (r : Part) (l : Lit) → r l.clock ≡ Open → lit_value r l ≡ Open
lit-open r l e = elim l.positive as (λ b. cond b (r l.clock) (not3 (r l.clock)) ≡ Open) [ true ↦ e | false ↦ ap not3 e ]

falsified-here : (l : Lit) (ls : List Lit) → falsified (l ∷ ls) l.clock ≡ known_as (not l.positive)
falsified-here l ls = test_same l.clock l.clock (known_as (not l.positive)) (falsified ls l.clock) refl

falsified-there : (l : Lit) (ls : List Lit) (y : ℕ) → (y ≡ l.clock → ⊥) → falsified (l ∷ ls) y ≡ falsified ls y
falsified-there l ls y n = test_other y l.clock (known_as (not l.positive)) (falsified ls y) n

head-fresh : (n : ℕ) (l : Lit) (ls : List Lit) → are_proper n (l ∷ ls) ≡ true → names l.clock ls ≡ false
head-fresh n l ls a = not-true (names l.clock ls) (and_parts _ _ (and_parts (nat_lt l.clock n) _ a).1).0

tail-proper : (n : ℕ) (l : Lit) (ls : List Lit) → are_proper n (l ∷ ls) ≡ true → are_proper n ls ≡ true
tail-proper n l ls a = (and_parts (not (names l.clock ls)) _ (and_parts (nat_lt l.clock n) _ a).1).1

open-of : (t : Truth3) → not (is_open t) ≡ false → t ≡ Open
open-of Yes e = absurd (cc)
open-of No e = absurd (cc)
open-of Open e = refl

-- a clock that the tail knows is not the head's
other-clock : (n : ℕ) (l : Lit) (ls : List Lit) (y : ℕ) → are_proper n (l ∷ ls) ≡ true → falsified ls y ≢ Open → y ≡ l.clock → ⊥
other-clock n l ls y a k e = k (open-of (falsified ls y) (sym (named-known y ls) ∙ ap (λ x. names x ls) e ∙ head-fresh n l ls a))

-- all literals are false where r has their values
pub all-false-of : (n : ℕ) (r : Part) (ls : List Lit) → are_proper n ls ≡ true → ((y : ℕ) → falsified ls y ≢ Open → r y ≡ falsified ls y) →
    all_false r ls ≡ true
all-false-of n r [] a h = refl
all-false-of n r (l ∷ ls) a h =
    let here = falsified-here l ls in
    let no = lit-no r l (h l.clock (known-not_open _ (not l.positive) here) ∙ here) in
    ap (λ t. is_no t && all_false r ls) no
    ∙ all-false-of n r ls (tail-proper n l ls a)
    (λ y k. let there = falsified-there l ls y (other-clock n l ls y a k) in h y (λ o. k (sym there ∙ o)) ∙ there)

known_as-inj : (a b : Bool) → known_as (not a) ≡ known_as b → a ≡ not b
known_as-inj true true e = absurd (cc)
known_as-inj true false e = refl
known_as-inj false true e = refl
known_as-inj false false e = absurd (cc)

-- a clause whose other literals are false gives the literal of the clock that is open
pub unit-of : (n x : ℕ) (b : Bool) (r : Part) (ls : List Lit) → are_proper n ls ≡ true → r x ≡ Open → falsified ls x ≡ known_as b →
    ((y : ℕ) → (y ≡ x → ⊥) → falsified ls y ≢ Open → r y ≡ falsified ls y) → unit r ls ≡ Some (record { clock = x; positive = not b })
unit-of n x b r [] a o f h = absurd (known-not_open Open b f refl)
unit-of n x b r (l ∷ ls) a o f h =
    ⊎_elim
    (λ e.
    let open_lit = lit-open r l (ap r (sym e) ∙ o) in
    let rest =
    all-false-of n r ls (tail-proper n l ls a)
    (λ y k. let other = other-clock n l ls y a k in let there = falsified-there l ls y other in h y (λ s. other (s ∙ e)) (λ q. k (sym there ∙ q)) ∙ there) in
    let sign : l.positive ≡ not b = known_as-inj l.positive b (sym (test_same x l.clock (known_as (not l.positive)) (falsified ls x) e) ∙ f) in
    ap (λ t. elim t [ Yes ↦ None | No ↦ unit r ls | Open ↦ cond (all_false r ls) (Some l) None ]) open_lit
    ∙ ap (λ t. cond t (Some l) None) rest
    ∙ ap₂ (λ k s. let m : Lit = record { clock = k; positive = s } in Some m) (sym e) sign)
    (λ d.
    let here = falsified-here l ls in
    let no = lit-no r l (h l.clock (λ s. d (sym s)) (known-not_open _ (not l.positive) here) ∙ here) in
    ap (λ t. elim t [ Yes ↦ None | No ↦ unit r ls | Open ↦ cond (all_false r ls) (Some l) None ]) no
    ∙ unit-of n x b r ls (tail-proper n l ls a) o (sym (falsified-there l ls x d) ∙ f)
    (λ y s k. let there = falsified-there l ls y (other-clock n l ls y a k) in h y s (λ q. k (sym there ∙ q)) ∙ there))
    (cases_eq x l.clock)

-- all literals of a clause are false under more than denies it
pub denial-fails : (n : ℕ) (r q : Part) (ls : List Lit) → are_proper n ls ≡ true → falsified ls ≡ q → Under q r → all_false r ls ≡ true
denial-fails n r q ls a e u =
    all-false-of n r ls a
    (λ y k. let same : falsified ls y ≡ q y = ap (λ (p : Part). p y) e in under-known q r y u (λ o. k (same ∙ o)) ∙ sym same)

not-no : (t : Truth3) → not3 t ≡ No → t ≡ Yes
not-no Yes h = refl
not-no No h = absurd (cc)
not-no Open h = absurd (cc)

lit-value-no : (p : Part) (l : Lit) → lit_value p l ≡ No → p l.clock ≡ known_as (not l.positive)
lit-value-no p l e =
    (elim l.positive as (λ b. cond b (p l.clock) (not3 (p l.clock)) ≡ No → p l.clock ≡ known_as (not b))
    [ true ↦ λ h. h | false ↦ λ h. not-no (p l.clock) h ]) e

-- a clause whose literals are all false, as values
pub fails-under : (p : Part) (ls : List Lit) → all_false p ls ≡ true → Under (falsified ls) p
fails-under p [] h = record { at = λ x. inl refl }
fails-under p (l ∷ ls) h =
    let rest = fails-under p ls (and_parts _ _ h).1 in
    let here = lit-value-no p l (is-no (lit_value p l) (and_parts _ _ h).0) in
    record {
      at = λ x.
          ⊎_elim
          (λ s. inr (test_same x l.clock (known_as (not l.positive)) (falsified ls x) s ∙ sym here ∙ ap p (sym s)))
          (λ d. let there = falsified-there l ls x d in ⊎_elim (λ o. inl (there ∙ o)) (λ e. inr (there ∙ e)) (rest.at x))
          (cases_eq x l.clock);
    }
