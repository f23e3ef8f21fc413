-- The members of a set with a clock more or less, and of a part of it.
use Rattle.std.proofs.Common.{◌≡◌, ◌≢◌, ℕ, List, [], ◌∷◌, filter, Bool, true, false, not, ◌||◌, ◌&&◌, refl, sym, ap, ◌∙◌, ⊎_elim, ◌<◌, subst, nat_eq, nat_lt}
use Rattle.std.proofs.Math.Bool.{or-true, and-false, and-true}
use Rattle.std.proofs.lemmas.Bool.{cases_eq, eq-eqb, ne_eqb, and_parts, ltb-true}
use Rattle.ccsl_base.specs.Clocks.{ticks_in, with_clock, are_below}
use Rattle.ccsl_base.specs.Changes.{without_clock, put_clock, difference}

pub by_case : (b : Bool) (P : Type 0) → (b ≡ true → P) → (b ≡ false → P) → P
by_case b P yes_ no_ = (elim b as (λ v. b ≡ v → P) [ true ↦ yes_ | false ↦ no_ ]) refl

pub ticks_in-with_same : (c : ℕ) (ys : List ℕ) → ticks_in c (with_clock c ys) ≡ true
ticks_in-with_same c [] = ap (λ b. b || false) (eq-eqb c c refl)
ticks_in-with_same c (y ∷ ys) =
    by_case (nat_lt c y) _
    (λ l. rw l (ap (λ b. b || (nat_eq c y || ticks_in c ys)) (eq-eqb c c refl)))
    (λ l. by_case (nat_eq c y) _
    (λ e. rw (l, e) (ap (λ b. b || ticks_in c ys) e))
    (λ e. rw (l, e) (ap (λ b. nat_eq c y || b) (ticks_in-with_same c ys) ∙ or-true (nat_eq c y))))

pub ticks_in-with_other : (c x : ℕ) (ys : List ℕ) → x ≢ c → ticks_in x (with_clock c ys) ≡ ticks_in x ys
ticks_in-with_other c x [] other = ap (λ b. b || false) (ne_eqb x c other)
ticks_in-with_other c x (y ∷ ys) other =
    by_case (nat_lt c y) _
    (λ l. rw l (ap (λ b. b || (nat_eq x y || ticks_in x ys)) (ne_eqb x c other)))
    (λ l. by_case (nat_eq c y) _
    (λ e. rw (l, e) refl)
    (λ e. rw (l, e) (ap (λ b. nat_eq x y || b) (ticks_in-with_other c x ys other))))

-- a member of a set's part is one that passes the test
pub ticks_in-filter : (p : ℕ → Bool) (x : ℕ) (ys : List ℕ) → ticks_in x (filter p ys) ≡ (ticks_in x ys && p x)
ticks_in-filter p x [] = refl
ticks_in-filter p x (y ∷ ys) =
    let later : ticks_in x (filter p ys) ≡ (ticks_in x ys && p x) = ticks_in-filter p x ys in
    by_case (p y) _
    (λ e. rw e
    (⊎_elim
    (λ s. rw (eq-eqb x y s) (sym (ap p s ∙ e)))
    (λ s. rw (ne_eqb x y s) later)
    (cases_eq x y)))
    (λ e. rw e
    (⊎_elim
    (λ s. rw (eq-eqb x y s) (later ∙ ap (λ b. ticks_in x ys && b) (ap p s ∙ e) ∙ and-false (ticks_in x ys) ∙ sym (ap p s ∙ e)))
    (λ s. rw (ne_eqb x y s) later)
    (cases_eq x y)))

pub ticks_in-without_same : (c : ℕ) (ys : List ℕ) → ticks_in c (without_clock c ys) ≡ false
ticks_in-without_same c ys =
    ticks_in-filter (λ y. not (nat_eq c y)) c ys ∙ ap (λ b. ticks_in c ys && not b) (eq-eqb c c refl) ∙ and-false (ticks_in c ys)

pub ticks_in-without_other : (c x : ℕ) (ys : List ℕ) → x ≢ c → ticks_in x (without_clock c ys) ≡ ticks_in x ys
ticks_in-without_other c x ys other =
    ticks_in-filter (λ y. not (nat_eq c y)) x ys ∙ ap (λ b. ticks_in x ys && not b) (ne_eqb c x (λ q. other (sym q))) ∙ and-true (ticks_in x ys)

pub ticks_in-put_same : (c : ℕ) (one : Bool) (ys : List ℕ) → ticks_in c (put_clock c one ys) ≡ one
ticks_in-put_same c true ys = ticks_in-with_same c ys
ticks_in-put_same c false ys = ticks_in-without_same c ys

pub ticks_in-put_other : (c : ℕ) (one : Bool) (x : ℕ) (ys : List ℕ) → x ≢ c → ticks_in x (put_clock c one ys) ≡ ticks_in x ys
ticks_in-put_other c true x ys other = ticks_in-with_other c x ys other
ticks_in-put_other c false x ys other = ticks_in-without_other c x ys other

pub ticks_in-difference : (xs ys : List ℕ) (x : ℕ) → ticks_in x (difference xs ys) ≡ (ticks_in x xs && not (ticks_in x ys))
ticks_in-difference xs ys x = ticks_in-filter (λ y. not (ticks_in y ys)) x xs

-- each member of a set below a bound is
pub member-below : (bound : ℕ) (ys : List ℕ) (x : ℕ) → are_below bound ys ≡ true → ticks_in x ys ≡ true → x < bound
member-below bound [] x b t = absurd cc
member-below bound (y ∷ ys) x b t =
    let parts = and_parts (nat_lt y bound) (are_below bound ys) b in
    ⊎_elim
    (λ e. subst (λ z. z < bound) (sym e) (ltb-true y bound parts.0))
    (λ e. member-below bound ys x parts.1 (sym (ap (λ v. v || ticks_in x ys) (ne_eqb x y e)) ∙ t))
    (cases_eq x y)

-- the first member of a list is in it
pub first-ticks : (x : ℕ) (s : List ℕ) → ticks_in x (x ∷ s) ≡ true
first-ticks x s = ap (λ t. t || ticks_in x s) (eq-eqb x x refl)
