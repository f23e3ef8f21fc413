-- Sets of clocks as ascending lists: one more member, and the members below a bound.
use Rattle.std.proofs.Common.{◌≡◌, ℕ, suc, ◌<◌, ◌≤◌, ⊎_elim, List, [], ◌∷◌, ◌++◌, Bool, true, false, ◌||◌, nat_eq, nat_lt, if◌then◌else◌, refl, sym, ap, ap₂}
use Rattle.std.proofs.Common.{◌∙◌, arith, lt-ltb, ltb-true, le-ltb, eq-eqb}
use Rattle.std.specs.List.{list_all, filter}
use Rattle.std.proofs.lemmas.Bool.{cases_lt, cases_eq, ne_eqb, and_parts, and_from}
use Rattle.ccsl_base.specs.Clocks.{ticks_in, with_clock, is_ascending, are_below}
use Rattle.ccsl_base.proofs.Ascending.{part-ascends}

-- the members below a bound
abbrev pub below : ℕ → List ℕ → List ℕ
below x s = filter (λ y. nat_lt y x) s

-- no clock from x on ticks
abbrev pub NoneFrom : ℕ → List ℕ → Type 0
NoneFrom x s = (y : ℕ) → x ≤ y → ticks_in y s ≡ false

pub NoneFrom-are_below : (x : ℕ) (s : List ℕ) → are_below x s ≡ true → NoneFrom x s
NoneFrom-are_below x [] h y l = refl
NoneFrom-are_below x (z ∷ s) h y l =
    let w = and_parts (nat_lt z x) (are_below x s) h in
    let z_below = ltb-true z x w.0 in
    ap (λ t. t || ticks_in y s) (ne_eqb y z (λ e. omega (arith, z_below))) ∙ NoneFrom-are_below x s w.1 y l

-- where x stands in a set, seen at the first member
at_first : (x y : ℕ) (s : List ℕ) (P : List ℕ → Type 0) → (x < y → P (x ∷ (y ∷ s))) → (x ≡ y → P (y ∷ s)) → (y < x → P (y ∷ with_clock x s))
    → P (with_clock x (y ∷ s))
at_first x y s P before same after =
    ⊎_elim
    (λ (l : x < y). let Q : Bool → Type 0 =
    λ t. P (if t then x ∷ (y ∷ s) else if nat_eq x y then y ∷ s else y ∷ with_clock x s) in subst_at Q (lt-ltb x y l) (before l))
    (λ (l : y ≤ x).
    let Q : Bool → Type 0 = λ t. P (if t then x ∷ (y ∷ s) else if nat_eq x y then y ∷ s else y ∷ with_clock x s) in
    subst_at Q (le-ltb x y l)
    (⊎_elim
    (λ (e : x ≡ y). let R : Bool → Type 0 = λ t. P (if t then y ∷ s else y ∷ with_clock x s) in subst_at R (eq-eqb x y e) (same e))
    (λ (ne : x ≡ y → ⊥). let R : Bool → Type 0 = λ t. P (if t then y ∷ s else y ∷ with_clock x s) in subst_at R (ne_eqb x y ne) (after (omega (arith, ne, l))))
    (cases_eq x y)))
    (cases_lt x y)
  where
    subst_at : {b c : Bool} (Q : Bool → Type 0) → b ≡ c → Q c → Q b
    subst_at Q e h = rw e h

pub ticks_in-with_clock : (y x : ℕ) (s : List ℕ) → ticks_in y (with_clock x s) ≡ (nat_eq y x || ticks_in y s)
ticks_in-with_clock y x [] = refl
ticks_in-with_clock y x (z ∷ s) =
    at_first x z s (λ r. ticks_in y r ≡ (nat_eq y x || (nat_eq y z || ticks_in y s)))
    (λ l. refl)
    (λ e. ap (λ z. nat_eq y z || ticks_in y s) (sym e) ∙ twice (nat_eq y x) (ticks_in y s) ∙ ap (λ z. nat_eq y x || (nat_eq y z || ticks_in y s)) e)
    (λ l. ap (λ t. nat_eq y z || t) (ticks_in-with_clock y x s) ∙ swap (nat_eq y z) (nat_eq y x) (ticks_in y s))
  where
    twice : (a b : Bool) → (a || b) ≡ (a || (a || b))
    twice true b = refl
    twice false b = refl

    swap : (a b c : Bool) → (a || (b || c)) ≡ (b || (a || c))
    swap true true c = refl
    swap true false c = refl
    swap false b c = refl

below-first : (x y : ℕ) (s : List ℕ) → y < x → below x (y ∷ s) ≡ y ∷ below x s
below-first x y s l = ap (λ t. if t then y ∷ below x s else below x s) (lt-ltb y x l)

below-past : (x y : ℕ) (s : List ℕ) → x ≤ y → below x (y ∷ s) ≡ below x s
below-past x y s l = ap (λ t. if t then y ∷ below x s else below x s) (le-ltb y x l)

-- a member from the bound on changes nothing below it
pub below-with_clock : (d x : ℕ) (s : List ℕ) → d ≤ x → below d (with_clock x s) ≡ below d s
below-with_clock d x [] l = below-past d x [] l
below-with_clock d x (y ∷ s) l =
    at_first x y s (λ r. below d r ≡ below d (y ∷ s))
    (λ _. below-past d x (y ∷ s) l)
    (λ _. refl)
    (λ _. ⊎_elim
    (λ (m : y < d). below-first d y (with_clock x s) m ∙ ap (λ r. y ∷ r) (below-with_clock d x s l) ∙ sym (below-first d y s m))
    (λ (m : d ≤ y). below-past d y (with_clock x s) m ∙ below-with_clock d x s l ∙ sym (below-past d y s m))
    (cases_lt y d))

pub below-all : (x : ℕ) (s : List ℕ) → are_below x s ≡ true → below x s ≡ s
below-all x [] h = refl
below-all x (y ∷ s) h = let w = and_parts (nat_lt y x) (are_below x s) h in below-first x y s (ltb-true y x w.0) ∙ ap (λ r. y ∷ r) (below-all x s w.1)

below-none : (x y : ℕ) (s : List ℕ) → x ≤ suc y → list_all (nat_lt y) s ≡ true → below x s ≡ []
below-none x y [] l h = refl
below-none x y (z ∷ s) l h =
    let w = and_parts (nat_lt y z) (list_all (nat_lt y) s) h in
    let y_below = ltb-true y z w.0 in
    below-past x z s (omega (arith, y_below)) ∙ below-none x y s l w.1

pub ticks_in-before : (x y : ℕ) (s : List ℕ) → x ≤ y → list_all (nat_lt y) s ≡ true → ticks_in x s ≡ false
ticks_in-before x y [] l h = refl
ticks_in-before x y (z ∷ s) l h =
    let w = and_parts (nat_lt y z) (list_all (nat_lt y) s) h in
    let y_below = ltb-true y z w.0 in
    ap (λ t. t || ticks_in x s) (ne_eqb x z (λ e. omega (arith, y_below))) ∙ ticks_in-before x y s l w.1

-- the clocks below the next bound: one more, where it is a member
pub below-suc : (x : ℕ) (s : List ℕ) → is_ascending s ≡ true → below (suc x) s ≡ (if ticks_in x s then with_clock x (below x s) else below x s)
below-suc x [] h = refl
below-suc x (y ∷ s) h =
    let w = and_parts (list_all (nat_lt y) s) (is_ascending s) h in
    ⊎_elim
    (λ (l : y < x). below-first (suc x) y s (omega arith) ∙ ap (λ r. y ∷ r) (below-suc x s w.1) ∙ under l (ticks_in x s)
    ∙ sym (ap₂ (λ t r. if t then with_clock x r else r) (ap (λ t. t || ticks_in x s) (ne_eqb x y (λ e. omega arith))) (below-first x y s l)))
    (λ (l : x ≤ y).
    ⊎_elim
    (λ (e : x ≡ y).
    below-first (suc x) y s (omega arith)
    ∙ ap (λ r. y ∷ r) (below-none (suc x) y s (omega arith) w.0)
    ∙ ap (λ z. z ∷ []) (sym e)
    ∙ sym (ap₂ (λ t r. if t then with_clock x r else r) (ap (λ t. t || ticks_in x s) (eq-eqb x y e)) (below-past x y s l ∙ below-none x y s (omega arith) w.0)))
    (λ (ne : x ≡ y → ⊥).
    below-past (suc x) y s (omega (arith, ne))
    ∙ below-none (suc x) y s (omega (arith, ne)) w.0
    ∙ sym (ap₂ (λ t r. if t then with_clock x r else r) (ap (λ t. t || ticks_in x s) (ne_eqb x y ne) ∙ ticks_in-before x y s l w.0)
    (below-past x y s l ∙ below-none x y s (omega arith) w.0)))
    (cases_eq x y))
    (cases_lt y x)
  where
    under : y < x → (t : Bool) → y ∷ (if t then with_clock x (below x s) else below x s) ≡ (if t then with_clock x (y ∷ below x s) else y ∷ below x s)
    under l false = refl
    under l true = at_first x y (below x s) (λ r. y ∷ with_clock x (below x s) ≡ r) (λ m. let z : ⊥ = omega arith in absurd z) (λ e. let z : ⊥ =
        omega arith in absurd z) (λ _. refl)

-- a clock below the bound is there where it was
pub ticks_in-below : (x y : ℕ) (s : List ℕ) → y < x → ticks_in y (below x s) ≡ ticks_in y s
ticks_in-below x y [] l = refl
ticks_in-below x y (z ∷ s) l =
    ⊎_elim
    (λ (m : z < x). ap (ticks_in y) (below-first x z s m) ∙ ap (λ t. nat_eq y z || t) (ticks_in-below x y s l))
    (λ (m : x ≤ z). ap (ticks_in y) (below-past x z s m) ∙ ticks_in-below x y s l ∙ sym (ap (λ t. t || ticks_in y s) (ne_eqb y z (λ e. omega arith))))
    (cases_lt z x)

-- one more member above all others keeps the order
pub ascending-last : (x : ℕ) (s : List ℕ) → is_ascending s ≡ true → are_below x s ≡ true → is_ascending (s ++ x ∷ []) ≡ true
ascending-last x [] h b = refl
ascending-last x (y ∷ s) h b =
    let w = and_parts (list_all (nat_lt y) s) (is_ascending s) h in
    let v = and_parts (nat_lt y x) (are_below x s) b in
    and_from (list_all (nat_lt y) (s ++ x ∷ [])) (is_ascending (s ++ x ∷ [])) (above s w.0 v.0) (ascending-last x s w.1 v.1)
  where
    above : (s : List ℕ) → list_all (nat_lt y) s ≡ true → nat_lt y x ≡ true → list_all (nat_lt y) (s ++ x ∷ []) ≡ true
    above [] h l = and_from (nat_lt y x) true l refl
    above (z ∷ s) h l = let w =
        and_parts (nat_lt y z) (list_all (nat_lt y) s) h in and_from (nat_lt y z) (list_all (nat_lt y) (s ++ x ∷ [])) w.0 (above s w.1 l)

pub are_below-last : (x : ℕ) (s : List ℕ) → are_below x s ≡ true → are_below (suc x) (s ++ x ∷ []) ≡ true
are_below-last x [] b = and_from (nat_lt x (suc x)) true (lt-ltb x (suc x) (omega arith)) refl
are_below-last x (y ∷ s) b =
    let v = and_parts (nat_lt y x) (are_below x s) b in
    let y_below = ltb-true y x v.0 in
    and_from (nat_lt y (suc x)) (are_below (suc x) (s ++ x ∷ [])) (lt-ltb y (suc x) (omega (arith, y_below))) (are_below-last x s v.1)

pub are_below-more : (x y : ℕ) (s : List ℕ) → x ≤ y → are_below x s ≡ true → are_below y s ≡ true
are_below-more x y [] l b = refl
are_below-more x y (z ∷ s) l b =
    let v = and_parts (nat_lt z x) (are_below x s) b in
    let z_below = ltb-true z x v.0 in
    and_from (nat_lt z y) (are_below y s) (lt-ltb z y (omega (arith, z_below, l))) (are_below-more x y s l v.1)

-- the members below a number are a set, too
pub below-ascending : (x : ℕ) (s : List ℕ) → is_ascending s ≡ true → is_ascending (below x s) ≡ true
below-ascending x s h = part-ascends (λ y. nat_lt y x) s h

pub below-below : (x : ℕ) (s : List ℕ) → are_below x (below x s) ≡ true
below-below x [] = refl
below-below x (y ∷ s) = on (nat_lt y x) refl (below-below x s)
  where
    on : (t : Bool) → nat_lt y x ≡ t → are_below x (below x s) ≡ true → are_below x (if t then y ∷ below x s else below x s) ≡ true
    on true e rest = and_from (nat_lt y x) (are_below x (below x s)) e rest
    on false e rest = rest
