-- Sets with one more clock: the order of insertion does not matter, and they stay sets.
use Rattle.std.proofs.Common.{◌≡◌, ◌≢◌, ◌⊎◌, inl, inr, ℕ, ◌<◌, List, [], ◌∷◌, nat_eq, if◌then◌else◌, sym, ap, ◌∙◌, ⊎_elim, arith}
use Rattle.std.proofs.Common.{lt-ltb, le-ltb, eq-eqb}
use Rattle.std.proofs.lemmas.Bool.{cases_order, ne_eqb}
use Rattle.ccsl_base.specs.Clocks.{with_clock}

with-before : (x y : ℕ) (s : List ℕ) → x < y → with_clock x (y ∷ s) ≡ x ∷ (y ∷ s)
with-before x y s l = ap (λ t. if t then x ∷ (y ∷ s) else if nat_eq x y then y ∷ s else y ∷ with_clock x s) (lt-ltb x y l)

with-same : (x y : ℕ) (s : List ℕ) → x ≡ y → with_clock x (y ∷ s) ≡ y ∷ s
with-same x y s e =
    ap (λ t. if t then x ∷ (y ∷ s) else if nat_eq x y then y ∷ s else y ∷ with_clock x s) (le-ltb x y (omega arith))
    ∙ ap (λ t. if t then y ∷ s else y ∷ with_clock x s) (eq-eqb x y e)

with-after : (x y : ℕ) (s : List ℕ) → y < x → with_clock x (y ∷ s) ≡ y ∷ with_clock x s
with-after x y s l =
    ap (λ t. if t then x ∷ (y ∷ s) else if nat_eq x y then y ∷ s else y ∷ with_clock x s) (le-ltb x y (omega arith))
    ∙ ap (λ t. if t then y ∷ s else y ∷ with_clock x s) (ne_eqb x y (λ e. omega arith))

-- a lower clock before a higher one, and behind it
swap-lower : (x y : ℕ) (s : List ℕ) → x < y → with_clock x (with_clock y s) ≡ with_clock y (with_clock x s)
swap-lower x y [] l = with-before x y [] l ∙ sym (with-after y x [] l)
swap-lower x y (z ∷ s) l =
    ⊎_elim
    (λ (e : x ≡ z).
    ap (with_clock x) (with-after y z s (omega arith))
    ∙ with-same x z (with_clock y s) e
    ∙ sym (ap (with_clock y) (with-same x z s e) ∙ with-after y z s (omega arith)))
    (λ o. ⊎_elim
    (λ (m : x < z).
    front m (cases_order y z) ∙ sym (ap (with_clock y) (with-before x z s m) ∙ with-after y x (z ∷ s) l))
    (λ (m : z < x).
    ap (with_clock x) (with-after y z s (omega arith))
    ∙ with-after x z (with_clock y s) m
    ∙ ap (λ r. z ∷ r) (swap-lower x y s l)
    ∙ sym (ap (with_clock y) (with-after x z s m) ∙ with-after y z (with_clock x s) (omega arith)))
    o)
    (cases_order x z)
  where
    front : x < z → (y ≡ z) ⊎ ((y < z) ⊎ (z < y)) → with_clock x (with_clock y (z ∷ s)) ≡ x ∷ with_clock y (z ∷ s)
    front m (inl e) = ap (with_clock x) (with-same y z s e) ∙ with-before x z s m ∙ sym (ap (λ r. x ∷ r) (with-same y z s e))
    front m (inr (inl o)) = ap (with_clock x) (with-before y z s o) ∙ with-before x y (z ∷ s) l ∙ sym (ap (λ r. x ∷ r) (with-before y z s o))
    front m (inr (inr o)) = ap (with_clock x) (with-after y z s o) ∙ with-before x z (with_clock y s) m ∙ sym (ap (λ r. x ∷ r) (with-after y z s o))

pub with_clock-swap : (x y : ℕ) (s : List ℕ) → with_clock x (with_clock y s) ≡ with_clock y (with_clock x s)
with_clock-swap x y s =
    ⊎_elim
    (λ e. ap (λ k. with_clock k (with_clock y s)) e ∙ ap (λ k. with_clock y (with_clock k s)) (sym e))
    (λ o. ⊎_elim (λ l. swap-lower x y s l) (λ l. sym (swap-lower y x s l)) o)
    (cases_order x y)

pub with_clock-some : (x : ℕ) (s : List ℕ) → with_clock x s ≢ []
with_clock-some x [] e = cc
with_clock-some x (y ∷ s) e =
    ⊎_elim
    (λ same. let z : y ∷ s ≡ [] = sym (with-same x y s same) ∙ e in cc)
    (λ o. ⊎_elim
    (λ l. let z : x ∷ (y ∷ s) ≡ [] = sym (with-before x y s l) ∙ e in cc)
    (λ l. let z : y ∷ with_clock x s ≡ [] = sym (with-after x y s l) ∙ e in cc)
    o)
    (cases_order x y)
