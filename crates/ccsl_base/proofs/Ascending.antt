-- Ascending lists: one more member behind all, a part of one, and that sets with the same members are the same list.
use Rattle.std.proofs.Common.{◌≡◌, ℕ, ◌<◌, ◌≤◌, ◌&&◌, if◌then◌else◌, subst, lt-ltb, ltb-false, List, [], ◌∷◌, ◌++◌, Bool, true, false, ◌||◌, cond, filter}
use Rattle.std.proofs.Common.{nat_eq, nat_lt, refl, sym, ap, ap₂, ◌∙◌, arith, eq-eqb, le-ltb}
use Rattle.std.specs.List.{list_all}
use Rattle.std.proofs.lemmas.Bool.{and_parts, and_from, ne_eqb, ltb-true, eqb-true, both_ways}
use Rattle.ccsl_base.specs.Clocks.{ticks_in, with_clock, is_ascending, are_below}

-- above all members, one more is the last
pub with_clock-last : (x : ℕ) (s : List ℕ) → are_below x s ≡ true → with_clock x s ≡ s ++ x ∷ []
with_clock-last x [] h = refl
with_clock-last x (y ∷ s) h =
    let parts = and_parts (nat_lt y x) (are_below x s) h in
    let l : y < x = ltb-true y x parts.0 in
    rw (le-ltb x y (omega (arith, l)), ne_eqb x y (λ e. omega (arith, e, l))) (ap (λ r. y ∷ r) (with_clock-last x s parts.1))

-- a member is above what is below all
pub above : (x : ℕ) (ys : List ℕ) (y : ℕ) → list_all (nat_lt x) ys ≡ true → ticks_in y ys ≡ true → x < y
above x [] y h t = absurd (cc)
above x (z ∷ ys) y h t = by-first (nat_eq y z) refl (λ r. above x ys y (and_parts (nat_lt x z) (list_all (nat_lt x) ys) h).1 r)
  where
    by-first : (b : Bool) → nat_eq y z ≡ b → (ticks_in y ys ≡ true → x < y) → x < y
    by-first true e k = let s : y ≡ z = eqb-true y z e in let l : x < z =
        ltb-true x z (and_parts (nat_lt x z) (list_all (nat_lt x) ys) h).0 in omega (arith, s, l)
    by-first false e k = k (sym (ap (λ b. b || ticks_in y ys) e) ∙ t)

-- what is not above all is no member
pub no-member : (x : ℕ) (ys : List ℕ) → list_all (nat_lt x) ys ≡ true → ticks_in x ys ≡ false
no-member x ys h = by-value (ticks_in x ys) refl
  where
    by-value : (b : Bool) → ticks_in x ys ≡ b → ticks_in x ys ≡ false
    by-value true e = let l : x < x = above x ys x h e in absurd (omega arith)
    by-value false e = e

-- a part is above what is below all
part-above : (p : ℕ → Bool) (x : ℕ) (ys : List ℕ) → list_all (nat_lt x) ys ≡ true → list_all (nat_lt x) (filter p ys) ≡ true
part-above p x [] h = refl
part-above p x (y ∷ ys) h =
    let q = and_parts (nat_lt x y) (list_all (nat_lt x) ys) h in
    let later = part-above p x ys q.1 in
    elim (p y) as (λ w. list_all (nat_lt x) (cond w (y ∷ filter p ys) (filter p ys)) ≡ true) [ true ↦ rw q.0 later | false ↦ later ]

pub part-ascends : (p : ℕ → Bool) (ys : List ℕ) → is_ascending ys ≡ true → is_ascending (filter p ys) ≡ true
part-ascends p [] h = refl
part-ascends p (y ∷ ys) h =
    let q = and_parts (list_all (nat_lt y) ys) (is_ascending ys) h in
    let later = part-ascends p ys q.1 in
    elim (p y) as (λ w. is_ascending (cond w (y ∷ filter p ys) (filter p ys)) ≡ true) [ true ↦ rw (part-above p y ys q.0) later | false ↦ later ]

pub same-members : (xs ys : List ℕ) → is_ascending xs ≡ true → is_ascending ys ≡ true → ((x : ℕ) → ticks_in x xs ≡ ticks_in x ys) → xs ≡ ys
same-members [] [] a b h = refl
same-members [] (y ∷ ys) a b h = absurd (let e : false ≡ true = h y ∙ ap (λ t. t || ticks_in y ys) (eq-eqb y y refl) in cc)
same-members (x ∷ xs) [] a b h = absurd (let e : true ≡ false = sym (ap (λ t. t || ticks_in x xs) (eq-eqb x x refl)) ∙ h x in cc)
same-members (x ∷ xs) (y ∷ ys) a b h = ap₂ (λ z zs. z ∷ zs) first (same-members xs ys p.1 q.1 rest)
  where
    p : (list_all (nat_lt x) xs ≡ true) × (is_ascending xs ≡ true)
    p = and_parts (list_all (nat_lt x) xs) (is_ascending xs) a

    q : (list_all (nat_lt y) ys ≡ true) × (is_ascending ys ≡ true)
    q = and_parts (list_all (nat_lt y) ys) (is_ascending ys) b

    x-there : ticks_in x (y ∷ ys) ≡ true
    x-there = sym (h x) ∙ ap (λ t. t || ticks_in x xs) (eq-eqb x x refl)

    y-there : ticks_in y (x ∷ xs) ≡ true
    y-there = h y ∙ ap (λ t. t || ticks_in y ys) (eq-eqb y y refl)

    by-eq : (t : Bool) → nat_eq x y ≡ t → x ≡ y
    by-eq true e = eqb-true x y e
    by-eq false e =
        let l : y < x = above y ys x q.0 (sym (ap (λ t. t || ticks_in x ys) e) ∙ x-there) in
        let f : nat_eq y x ≡ false = ne_eqb y x (λ s. omega (arith, l, s)) in
        let m : x < y = above x xs y p.0 (sym (ap (λ t. t || ticks_in y xs) f) ∙ y-there) in
        absurd (omega (arith, l, m))

    first : x ≡ y
    first = by-eq (nat_eq x y) refl

    rest : (z : ℕ) → ticks_in z xs ≡ ticks_in z ys
    rest z = by-first (nat_eq z x) refl
      where
        by-first : (t : Bool) → nat_eq z x ≡ t → ticks_in z xs ≡ ticks_in z ys
        by-first true e =
            let s : z ≡ x = eqb-true z x e in
            ap (λ k. ticks_in k xs) s ∙ no-member x xs p.0 ∙ sym (ap (λ k. ticks_in k ys) (s ∙ first) ∙ no-member y ys q.0)
        by-first false e = sym (ap (λ t. t || ticks_in z xs) e) ∙ h z ∙ ap (λ t. t || ticks_in z ys) (ap (nat_eq z) (sym first) ∙ e)

pub all-above : (x y : ℕ) (s : List ℕ) → x < y → list_all (nat_lt y) s ≡ true → list_all (nat_lt x) s ≡ true
all-above x y [] l h = refl
all-above x y (z ∷ s) l h =
    let w = and_parts (nat_lt y z) (list_all (nat_lt y) s) h in
    let m = ltb-true y z w.0 in
    and_from (nat_lt x z) (list_all (nat_lt x) s) (lt-ltb x z (omega (arith, l, m))) (all-above x y s l w.1)

-- what all members have, and a new one, all have with it
pub all-with : (p : ℕ → Bool) (x : ℕ) (ys : List ℕ) → p x ≡ true → list_all p ys ≡ true → list_all p (with_clock x ys) ≡ true
all-with p x [] is h = and_from (p x) true is refl
all-with p x (y ∷ ys) is h = on (nat_lt x y) (nat_eq x y) (all-with p x ys is (and_parts (p y) (list_all p ys) h).1)
  where
    on : (t u : Bool) → list_all p (with_clock x ys) ≡ true → list_all p (if t then x ∷ (y ∷ ys) else if u then y ∷ ys else y ∷ with_clock x ys) ≡ true
    on true u rest = and_from (p x) (list_all p (y ∷ ys)) is h
    on false true rest = h
    on false false rest = and_from (p y) (list_all p (with_clock x ys)) (and_parts (p y) (list_all p ys) h).0 rest

-- a set stays ascending with one member more
pub with_clock-ascends : (x : ℕ) (ys : List ℕ) → is_ascending ys ≡ true → is_ascending (with_clock x ys) ≡ true
with_clock-ascends x [] h = refl
with_clock-ascends x (y ∷ ys) h = let w =
    and_parts (list_all (nat_lt y) ys) (is_ascending ys) h in on (nat_lt x y) (nat_eq x y) refl refl w (with_clock-ascends x ys w.1)
  where
    on : (t u : Bool) → nat_lt x y ≡ t → nat_eq x y ≡ u → (list_all (nat_lt y) ys ≡ true) × (is_ascending ys ≡ true) → is_ascending (with_clock x ys) ≡ true →
        is_ascending (if t then x ∷ (y ∷ ys) else if u then y ∷ ys else y ∷ with_clock x ys) ≡ true
    on true u less e w rest =
        let l = ltb-true x y less in
        and_from (list_all (nat_lt x) (y ∷ ys)) (is_ascending (y ∷ ys)) (and_from (nat_lt x y) (list_all (nat_lt x) ys) less (all-above x y ys l w.0)) h
    on false true less e w rest = h
    on false false less e w rest =
        let l = ltb-false x y less in
        let ne : x ≡ y → ⊥ = λ s. both_ways (nat_eq x y) e (eq-eqb x y s) in
        and_from (list_all (nat_lt y) (with_clock x ys)) (is_ascending (with_clock x ys)) (all-with (nat_lt y) x ys (lt-ltb y x (omega (arith, l, ne))) w.0)
        rest
