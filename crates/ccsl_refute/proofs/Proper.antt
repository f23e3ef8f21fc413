-- Literals of which no two name one clock, from the last one to the first.
use Rattle.std.proofs.Common.{◌≡◌, ℕ, zero, suc, ◌<◌, ◌≤◌, List, [], ◌∷◌, length, drop, get_or, true, false, cond, not, ◌&&◌, ◌||◌, nat_eq, nat_lt, refl, sym}
use Rattle.std.proofs.Common.{ap, ◌∙◌}
use Rattle.std.proofs.lemmas.Bool.{lt-ltb, le-ltb, and_right}
use Rattle.ccsl_formula.specs.declared.truth3.Truth3.TheVariants.{Open}
use Rattle.ccsl_formula.specs.Truth.{known_as, Part, with_value}
use Rattle.ccsl_formula.specs.Agreement.{is_open}
use Rattle.ccsl_refute.specs.declared.line.Lit.{Lit}
use Rattle.ccsl_refute.specs.Literals.{falsified, names, are_proper}
use Rattle.ccsl_refute.proofs.Lists.{drop-read}

-- a clock has a value under the literals that name it
pub named-known : (x : ℕ) (ls : List Lit) → names x ls ≡ not (is_open (falsified ls x))
named-known x [] = refl
named-known x (l ∷ ls) =
    elim (nat_eq x l.clock) as (λ t. (t || names x ls) ≡ not (is_open (cond t (known_as (not l.positive)) (falsified ls x))))
    [ true ↦ elim l.positive as (λ b. true ≡ not (is_open (known_as (not b)))) [ true ↦ refl | false ↦ refl ] | false ↦ named-known x ls ]

-- where a later part is not proper, the whole is not
pub proper-drop : (n i : ℕ) (ls : List Lit) → are_proper n (drop i ls) ≡ false → are_proper n ls ≡ false
proper-drop n zero ls h = h
proper-drop n (suc i) [] h = h
proper-drop n (suc i) (l ∷ ls) h =
    rw (proper-drop n i ls h) (ap (λ t. nat_lt l.clock n && t) (and_right (not (names l.clock ls)) false refl) ∙ and_right (nat_lt l.clock n) false refl)

open-unnamed : (x : ℕ) (ls : List Lit) → falsified ls x ≡ Open → names x ls ≡ false
open-unnamed x ls e = named-known x ls ∙ ap (λ t. not (is_open t)) e

known-named : (x : ℕ) (ls : List Lit) → is_open (falsified ls x) ≡ false → names x ls ≡ true
known-named x ls e = named-known x ls ∙ ap not e

pub proper-at : (n i k : ℕ) (ls : List Lit) (d : Lit) (p : Part) → i < length ls → k ≡ suc i → p ≡ falsified (drop k ls) → are_proper n (drop k ls) ≡ true →
    (get_or ls i d).clock < n → p (get_or ls i d).clock ≡ Open → are_proper n (drop i ls) ≡ true
proper-at n i k ls d p l e f a b o =
    let x = (get_or ls i d).clock in
    let u : names x (drop k ls) ≡ false = open-unnamed x (drop k ls) (sym (ap (λ (q : Part). q x) f) ∙ o) in
    ap (are_proper n) (drop-read ls i k d l e)
    ∙ ap (λ t. t && (not (names x (drop k ls)) && are_proper n (drop k ls))) (lt-ltb x n b)
    ∙ ap (λ t. not t && are_proper n (drop k ls)) u
    ∙ a

pub falsified-at : (i k : ℕ) (ls : List Lit) (d : Lit) (p q : Part) → i < length ls → k ≡ suc i → p ≡ falsified (drop k ls) →
    q ≡ with_value p (get_or ls i d).clock (not (get_or ls i d).positive) → q ≡ falsified (drop i ls)
falsified-at i k ls d p q l e f g =
    g ∙ ap (λ (r : Part). with_value r (get_or ls i d).clock (not (get_or ls i d).positive)) f ∙ sym (ap falsified (drop-read ls i k d l e))

pub improper-large : (n i k : ℕ) (ls : List Lit) (d : Lit) → i < length ls → k ≡ suc i → n ≤ (get_or ls i d).clock → are_proper n ls ≡ false
improper-large n i k ls d l e b =
    let x = (get_or ls i d).clock in
    proper-drop n i ls
    (ap (are_proper n) (drop-read ls i k d l e)
    ∙ ap (λ t. t && (not (names x (drop k ls)) && are_proper n (drop k ls))) (le-ltb x n b))

pub improper-twice : (n i k : ℕ) (ls : List Lit) (d : Lit) (p : Part) → i < length ls → k ≡ suc i → p ≡ falsified (drop k ls) →
    is_open (p (get_or ls i d).clock) ≡ false → are_proper n ls ≡ false
improper-twice n i k ls d p l e f o =
    let x = (get_or ls i d).clock in
    let u : names x (drop k ls) ≡ true = known-named x (drop k ls) (sym (ap (λ (q : Part). is_open (q x)) f) ∙ o) in
    proper-drop n i ls
    (ap (are_proper n) (drop-read ls i k d l e)
    ∙ ap (λ t. nat_lt x n && (not t && are_proper n (drop k ls))) u
    ∙ and_right (nat_lt x n) false refl)
