-- Names and their numbers.
use Rattle.std.proofs.Common.{◌≡◌, ℕ, zero, suc, ◌+◌, ◌≤◌, ◌<◌, List, [], ◌∷◌, length, Bool, true, false, ◌||◌, not, nat_eq, cond, Option, Some}
use Rattle.std.proofs.Common.{None, get_or, refl, sym, ap, ap₂, ◌∙◌, arith, ne_eqb}
use Rattle.std.specs.Str.{bytes_eq}
use Rattle.std.proofs.lemmas.Bool.{and_parts, not-true, or_parts, eq-eqb}
use Rattle.ccsl_base.specs.Clocks.{ticks_in}
use Rattle.ccsl_base.specs.Names.{is_among, are_distinct}
use Rattle.ccsl_base.proofs.Tables.{bytes_eq-true, bytes_eq-refl, bytes_eq-sym}
use Rattle.ccsl_vcd_write.proofs.BodyStory.{AreBelow}
use Rattle.ccsl_event_rows.specs.ReadsBack.{named}
use Rattle.ccsl_base.proofs.Sets.{by_case}

-- the number of a name among some, the first of which has a number
abbrev pub number_of : ℕ → List ℕ → List (List ℕ) → Option ℕ
number_of first name [] = None
number_of first name (n ∷ names) = cond (bytes_eq name n) (Some first) (number_of (first + 1) name names)

-- a name that has no number is not among the names
pub none-among : (first : ℕ) (name : List ℕ) (names : List (List ℕ)) → number_of first name names ≡ None → is_among name names ≡ false
none-among first name [] e = refl
none-among first name (n ∷ names) e =
    (elim (bytes_eq name n) as (λ w. cond w (Some first) (number_of (first + 1) name names) ≡ None → (w || is_among name names) ≡ false) [
      | true ↦ λ h. absurd (cc)
      | false ↦ λ h. none-among (first + 1) name names h
    ]) e

-- a name that has one is
pub some-among : (first : ℕ) (name : List ℕ) (names : List (List ℕ)) (j : ℕ) → number_of first name names ≡ Some j → is_among name names ≡ true
some-among first name [] j e = absurd (cc)
some-among first name (n ∷ names) j e =
    (elim (bytes_eq name n) as (λ w. cond w (Some first) (number_of (first + 1) name names) ≡ Some j → (w || is_among name names) ≡ true) [
      | true ↦ λ h. refl
      | false ↦ λ h. some-among (first + 1) name names j h
    ]) e

number-from : (first : ℕ) (name : List ℕ) (names : List (List ℕ)) (j : ℕ) → number_of first name names ≡ Some j → first ≤ j
number-from first name [] j e = absurd (cc)
number-from first name (n ∷ names) j e =
    (elim (bytes_eq name n) as (λ w. cond w (Some first) (number_of (first + 1) name names) ≡ Some j → first ≤ j) [
      | true ↦ λ h. let same : first ≡ j = cc in omega arith
      | false ↦ λ h. let above = number-from (first + 1) name names j h in omega arith
    ]) e

-- a name that is not among the names is none of them
away-at : (name : List ℕ) (names : List (List ℕ)) (x : ℕ) → is_among name names ≡ false → x < length names → bytes_eq name (get_or names x []) ≡ false
away-at name [] x a l = absurd (omega arith)
away-at name (n ∷ names) zero a l = (or_parts (bytes_eq name n) (is_among name names) a).0
away-at name (n ∷ names) (suc x) a l = away-at name names x (or_parts (bytes_eq name n) (is_among name names) a).1 (omega arith)

-- of distinct names one has the number
at-number : (first : ℕ) (name : List ℕ) (names : List (List ℕ)) (j x : ℕ) → number_of first name names ≡ Some j → are_distinct names ≡ true → x < length names
    → nat_eq j (first + x) ≡ bytes_eq name (get_or names x [])
at-number first name [] j x e d l = absurd (omega arith)
at-number first name (n ∷ names) j zero e d l =
    (elim (bytes_eq name n) as (λ w. cond w (Some first) (number_of (first + 1) name names) ≡ Some j → nat_eq j (first + 0) ≡ w) [
      | true ↦ λ h. let same : first ≡ j = cc in eq-eqb j (first + 0) (omega arith)
      | false ↦ λ h. let above = number-from (first + 1) name names j h in ne_eqb j (first + 0) (λ q. omega arith)
    ]) e
at-number first name (n ∷ names) j (suc x) e d l =
    let parts = and_parts (not (is_among n names)) (are_distinct names) d in
    by_case (bytes_eq name n) _
    (λ t.
    let same : name ≡ n = bytes_eq-true name n t in
    let first-is : Some first ≡ Some j = sym (ap (λ w. cond w (Some first) (number_of (first + 1) name names)) t) ∙ e in
    let is : first ≡ j = cc in
    let away : is_among name names ≡ false = ap (λ (m : List ℕ). is_among m names) same ∙ not-true (is_among n names) parts.0 in
    ne_eqb j (first + suc x) (λ q. omega arith) ∙ sym (away-at name names x away (omega arith)))
    (λ f.
    let later : number_of (first + 1) name names ≡ Some j = sym (ap (λ w. cond w (Some first) (number_of (first + 1) name names)) f) ∙ e in
    let place : first + suc x ≡ first + 1 + x = omega arith in
    ap (nat_eq j) place ∙ at-number (first + 1) name names j x later parts.1 (omega arith))

-- a name is among those with some numbers where its own is
pub number-told : (name : List ℕ) (names : List (List ℕ)) (j : ℕ) (xs : List ℕ) → number_of 0 name names ≡ Some j → are_distinct names ≡ true
    → AreBelow (length names) xs
    → ticks_in j xs ≡ is_among name (named names xs)
number-told name names j [] e d b = refl
number-told name names j (x ∷ xs) e d b =
    let here : 0 + x ≡ x = omega arith in
    ap₂ (λ s t. s || t) (ap (nat_eq j) (sym here) ∙ at-number 0 name names j x e d b.0) (number-told name names j xs e d b.1)

pub none-told : (name : List ℕ) (names : List (List ℕ)) (xs : List ℕ) → is_among name names ≡ false → AreBelow (length names) xs
    → is_among name (named names xs) ≡ false
none-told name names [] a b = refl
none-told name names (x ∷ xs) a b = rw (away-at name names x a b.0) (none-told name names xs a b.1)
