-- What a value makes of the variables of a code.
use Rattle.std.proofs.Common.{◌≡◌, ℕ, zero, suc, ◌<◌, ◌≤◌, List, [], ◌∷◌, ◌++◌, length, ◌||◌, Bool, true, false, not, Option, Some, None, nat_eq, nat_lt}
use Rattle.std.proofs.Common.{if◌then◌else◌, refl, sym, ap, ◌∙◌, ⊎_elim, eqb-true, lt-ltb, le-ltb, eq-eqb}
use Rattle.std.proofs.Math.Bool.{or-true}
use Rattle.std.proofs.lemmas.List.{length-set}
use Rattle.std.proofs.lemmas.Bool.{cases_eq, ltb-true, ne_eqb}
use Rattle.ccsl_base.specs.Clocks.{ticks_in}
use Rattle.ccsl_triggers.specs.Held.{Held}
use Rattle.ccsl_events.specs.Keeping.{held_at, Kept, put_touched, touch_held, set_one, set_chain, chain}
use Rattle.ccsl_events.proofs.Settling.{held_at-same, held_at-other}

pub set_chain-none : (most : ℕ) (letters : List ℕ) (dumped : Bool) (k : Kept) → set_chain most None letters dumped k ≡ k
set_chain-none zero letters dumped k = refl
set_chain-none (suc most) letters dumped k = refl

pub set_chain-past : (most number : ℕ) (letters : List ℕ) (dumped : Bool) (k : Kept) → length k.all ≤ number → set_chain most (Some number) letters dumped k ≡ k
set_chain-past zero number letters dumped k l = refl
set_chain-past (suc most) number letters dumped k l = rw (le-ltb number (length k.all) l) refl

pub set_chain-one : (more most number : ℕ) (letters : List ℕ) (dumped : Bool) (k : Kept) → more ≡ suc most → number < length k.all →
    set_chain more (Some number) letters dumped k ≡ set_chain most (held_at k.all number).next letters dumped (set_one number letters dumped k)
set_chain-one more most number letters dumped k e l = rw e (rw (lt-ltb number (length k.all) l) refl)

-- a value changes neither how many there are nor which is next
pub set_one-length : (number : ℕ) (letters : List ℕ) (dumped : Bool) (k : Kept) → length (set_one number letters dumped k).all ≡ length k.all
set_one-length number letters dumped k = length-set k.all number (touch_held letters dumped (held_at k.all number))

set_one-at : (number : ℕ) (letters : List ℕ) (dumped : Bool) (k : Kept) (n : ℕ) → number < length k.all →
    held_at (set_one number letters dumped k).all n ≡ (if nat_eq n number then touch_held letters dumped (held_at k.all n) else held_at k.all n)
set_one-at number letters dumped k n l =
    ⊎_elim
    (λ (e : n ≡ number).
    ap (held_at (set_one number letters dumped k).all) e ∙ held_at-same k.all number (touch_held letters dumped) l
    ∙ sym (ap (λ t. if t then touch_held letters dumped (held_at k.all n) else held_at k.all n) (eq-eqb n number e)
    ∙ ap (λ i. touch_held letters dumped (held_at k.all i)) e))
    (λ (e : n ≡ number → ⊥).
    held_at-other k.all number n (touch_held letters dumped) e
    ∙ sym (ap (λ t. if t then touch_held letters dumped (held_at k.all n) else held_at k.all n) (ne_eqb n number e)))
    (cases_eq n number)

set_one-next : (number : ℕ) (letters : List ℕ) (dumped : Bool) (k : Kept) (n : ℕ) → number < length k.all →
    (held_at (set_one number letters dumped k).all n).next ≡ (held_at k.all n).next
set_one-next number letters dumped k n l = ap (λ h. h.next) (set_one-at number letters dumped k n l) ∙ by (nat_eq n number)
  where
    by : (t : Bool) → (if t then touch_held letters dumped (held_at k.all n) else held_at k.all n).next ≡ (held_at k.all n).next
    by true = refl
    by false = refl

set_one-chain : (most : ℕ) (first : Option ℕ) (number : ℕ) (letters : List ℕ) (dumped : Bool) (k : Kept) → number < length k.all →
    chain most first (set_one number letters dumped k).all ≡ chain most first k.all
set_one-chain zero first number letters dumped k l = refl
set_one-chain (suc most) None number letters dumped k l = refl
set_one-chain (suc most) (Some n) number letters dumped k l =
    ap (λ len. if nat_lt n len then n ∷ chain most (held_at k'.all n).next k'.all else []) (set_one-length number letters dumped k)
    ∙ ap (λ o. if nat_lt n (length k.all) then n ∷ chain most o k'.all else []) (set_one-next number letters dumped k n l)
    ∙ ap (λ ns. if nat_lt n (length k.all) then n ∷ ns else []) (set_one-chain most (held_at k.all n).next number letters dumped k l)
  where
    k' : Kept
    k' = set_one number letters dumped k

-- what is kept under a number is set where the number is among those of the chain
pub set_chain-at : (most : ℕ) (first : Option ℕ) (letters : List ℕ) (dumped : Bool) (k : Kept) (n : ℕ) →
    held_at (set_chain most first letters dumped k).all n
    ≡ (if ticks_in n (chain most first k.all) then touch_held letters dumped (held_at k.all n) else held_at k.all n)
set_chain-at zero first letters dumped k n = refl
set_chain-at (suc most) None letters dumped k n = refl
set_chain-at (suc most) (Some number) letters dumped k n =
    by (nat_lt number (length k.all)) refl (set_chain-at most (held_at k.all number).next letters dumped (set_one number letters dumped k) n)
  where
    k' : Kept
    k' = set_one number letters dumped k

    h : Held
    h = held_at k.all n

    t : Held
    t = touch_held letters dumped h

    twice : (b c : Bool) → (if b then touch_held letters dumped (if c then t else h) else (if c then t else h)) ≡ (if c || b then t else h)
    twice true true = same-touch
      where
        or-same : (a d : Bool) → ((a || d) || d) ≡ (a || d)
        or-same true d = refl
        or-same false true = refl
        or-same false false = refl

        same-touch : touch_held letters dumped t ≡ t
        same-touch = ap (λ b. record t { view = record t.view { heard = b } }) (or-same h.view.heard (not dumped))
    twice true false = refl
    twice false true = refl
    twice false false = refl

    Later : Type 0
    Later =
        held_at (set_chain most (held_at k.all number).next letters dumped k').all n
        ≡ (if ticks_in n (chain most (held_at k.all number).next k'.all) then touch_held letters dumped (held_at k'.all n) else held_at k'.all n)

    by : (b : Bool) → nat_lt number (length k.all) ≡ b → Later →
        held_at (if b then set_chain most (held_at k.all number).next letters dumped k' else k).all n
        ≡ (if ticks_in n (if b then number ∷ chain most (held_at k.all number).next k.all else []) then t else h)
    by false e later = refl
    by true e later =
        let l : number < length k.all = ltb-true number (length k.all) e in
        later
        ∙ ap (λ ns. if ticks_in n ns then touch_held letters dumped (held_at k'.all n) else held_at k'.all n)
        (set_one-chain most (held_at k.all number).next number letters dumped k l)
        ∙ ap (λ g. if ticks_in n (chain most (held_at k.all number).next k.all) then touch_held letters dumped g else g)
        (set_one-at number letters dumped k n l)
        ∙ twice (ticks_in n (chain most (held_at k.all number).next k.all)) (nat_eq n number)

pub ticks_in-append : (x : ℕ) (ys : List ℕ) (z : ℕ) → ticks_in x ys ≡ true → ticks_in x (ys ++ z ∷ []) ≡ true
ticks_in-append x [] z h = absurd (cc)
ticks_in-append x (y ∷ ys) z h = by (nat_eq x y) refl (ticks_in-append x ys z)
  where
    by : (b : Bool) → nat_eq x y ≡ b → (ticks_in x ys ≡ true → ticks_in x (ys ++ z ∷ []) ≡ true) → (b || ticks_in x (ys ++ z ∷ [])) ≡ true
    by true e later = refl
    by false e later = later (sym (ap (λ b. b || ticks_in x ys) e) ∙ h)

pub ticks_in-last : (x : ℕ) (ys : List ℕ) → ticks_in x (ys ++ x ∷ []) ≡ true
ticks_in-last x [] = ap (λ b. b || false) (eq-eqb x x refl)
ticks_in-last x (y ∷ ys) = ap (λ b. nat_eq x y || b) (ticks_in-last x ys) ∙ or-true (nat_eq x y)

put-keeps : (number : ℕ) (t : Bool) (ys : List ℕ) (n : ℕ) → ticks_in n ys ≡ true → ticks_in n (put_touched number t ys) ≡ true
put-keeps number true ys n h = h
put-keeps number false ys n h = ticks_in-append n ys number h

put-there : (number : ℕ) (t : Bool) (ys : List ℕ) → (t ≡ true → ticks_in number ys ≡ true) → ticks_in number (put_touched number t ys) ≡ true
put-there number true ys h = h refl
put-there number false ys h = ticks_in-last number ys

pub set_chain-touched : (most : ℕ) (first : Option ℕ) (letters : List ℕ) (dumped : Bool) (k : Kept) (n : ℕ) →
    ticks_in n k.touched ≡ true → ticks_in n (set_chain most first letters dumped k).touched ≡ true
set_chain-touched zero first letters dumped k n h = h
set_chain-touched (suc most) None letters dumped k n h = h
set_chain-touched (suc most) (Some number) letters dumped k n h =
    by (nat_lt number (length k.all)) refl
    (set_chain-touched most (held_at k.all number).next letters dumped (set_one number letters dumped k) n
    (put-keeps number (held_at k.all number).touched k.touched n h))
  where
    by : (b : Bool) → nat_lt number (length k.all) ≡ b →
        ticks_in n (set_chain most (held_at k.all number).next letters dumped (set_one number letters dumped k)).touched ≡ true →
        ticks_in n (if b then set_chain most (held_at k.all number).next letters dumped (set_one number letters dumped k) else k).touched ≡ true
    by false e later = h
    by true e later = later

-- and so do their marks
pub set_chain-flags : (most : ℕ) (first : Option ℕ) (letters : List ℕ) (dumped : Bool) (k : Kept) →
    ((n : ℕ) → (held_at k.all n).touched ≡ true → ticks_in n k.touched ≡ true) →
    (n : ℕ) → (held_at (set_chain most first letters dumped k).all n).touched ≡ true → ticks_in n (set_chain most first letters dumped k).touched ≡ true
set_chain-flags zero first letters dumped k flags n h = flags n h
set_chain-flags (suc most) None letters dumped k flags n h = flags n h
set_chain-flags (suc most) (Some number) letters dumped k flags n h =
    by (nat_lt number (length k.all)) refl (λ fl g. set_chain-flags most (held_at k.all number).next letters dumped (set_one number letters dumped k) fl n g) h
  where
    k' : Kept
    k' = set_one number letters dumped k

    here : (i : ℕ) → i ≡ number → ticks_in i k'.touched ≡ true
    here i s = ap (λ j. ticks_in j k'.touched) s ∙ put-there number (held_at k.all number).touched k.touched (flags number)

    one : number < length k.all → (i : ℕ) → (held_at k'.all i).touched ≡ true → ticks_in i k'.touched ≡ true
    one l i g = on (nat_eq i number) refl (sym (ap (λ h. h.touched) (set_one-at number letters dumped k i l)) ∙ g)
      where
        on : (b : Bool) → nat_eq i number ≡ b → (if nat_eq i number then touch_held letters dumped (held_at k.all i) else held_at k.all i).touched ≡ true
            → ticks_in i k'.touched ≡ true
        on true s g = here i (eqb-true i number s)
        on false s g =
            put-keeps number (held_at k.all number).touched k.touched i
            (flags i (sym (ap (λ t. (if t then touch_held letters dumped (held_at k.all i) else held_at k.all i).touched) s) ∙ g))

    Later : Type 0
    Later =
        ((i : ℕ) → (held_at k'.all i).touched ≡ true → ticks_in i k'.touched ≡ true) →
        (held_at (set_chain most (held_at k.all number).next letters dumped k').all n).touched ≡ true →
        ticks_in n (set_chain most (held_at k.all number).next letters dumped k').touched ≡ true

    by : (b : Bool) → nat_lt number (length k.all) ≡ b → Later →
        (held_at (if b then set_chain most (held_at k.all number).next letters dumped k' else k).all n).touched ≡ true →
        ticks_in n (if b then set_chain most (held_at k.all number).next letters dumped k' else k).touched ≡ true
    by false e later h = flags n h
    by true e later h = later (one (ltb-true number (length k.all) e)) h
