-- Sets of clocks: members that are there already, and members below a bound.
use Rattle.std.proofs.Common.{⊎_elim, ◌≡◌, ◌≢◌, ℕ, ◌<◌, ◌≤◌, List, [], ◌∷◌, Bool, true, false, ◌||◌, nat_eq, nat_lt, if◌then◌else◌, refl, sym, ap, ap₂, ◌∙◌}
use Rattle.std.proofs.Common.{arith, lt-ltb, ltb-true, le-ltb, eq-eqb}
use Rattle.std.specs.List.{list_all}
use Rattle.std.proofs.lemmas.Bool.{cases_lt, cases_eq, ne_eqb, and_parts, and_from}
use Rattle.ccsl_base.specs.Clocks.{ticks_in, with_clock, is_ascending, are_below}
use Rattle.ccsl_kernel.proofs.Sets.{ticks_in-before}
use Rattle.ccsl_base.proofs.Sets.{first-ticks}

-- a set with one of its members is the set
pub with_clock-member : (x : ℕ) (s : List ℕ) → is_ascending s ≡ true → ticks_in x s ≡ true → with_clock x s ≡ s
with_clock-member x [] a h = absurd (cc)
with_clock-member x (y ∷ s) a h =
    let w = and_parts (list_all (nat_lt y) s) (is_ascending s) a in
    ⊎_elim
    (λ (e : x ≡ y). ap₂ (λ t u. if t then x ∷ (y ∷ s) else if u then y ∷ s else y ∷ with_clock x s) (le-ltb x y (omega (arith, e))) (eq-eqb x y e))
    (λ (ne : x ≡ y → ⊥).
    let rest : ticks_in x s ≡ true = sym (ap (λ t. t || ticks_in x s) (ne_eqb x y ne)) ∙ h in
    ⊎_elim
    (λ (l : x < y). let bad : true ≡ false = sym rest ∙ ticks_in-before x y s (omega arith) w.0 in absurd (cc))
    (λ (l : y ≤ x).
    ap₂ (λ t u. if t then x ∷ (y ∷ s) else if u then y ∷ s else y ∷ with_clock x s) (le-ltb x y l) (ne_eqb x y ne)
    ∙ ap (λ r. y ∷ r) (with_clock-member x s w.1 rest))
    (cases_lt x y))
    (cases_eq x y)

tail-ticks : (x y : ℕ) (s : List ℕ) → ticks_in x s ≡ true → ticks_in x (y ∷ s) ≡ true
tail-ticks x y s h = ap (λ t. nat_eq x y || t) h ∙ or-true (nat_eq x y)
  where
    or-true : (b : Bool) → (b || true) ≡ true
    or-true true = refl
    or-true false = refl

-- where each member is below a bound, all are
pub below-members : (n : ℕ) (s : List ℕ) → ((x : ℕ) → ticks_in x s ≡ true → x < n) → are_below n s ≡ true
below-members n [] h = refl
below-members n (y ∷ s) h =
    and_from (nat_lt y n) (are_below n s) (lt-ltb y n (h y (first-ticks y s)))
    (below-members n s (λ x t. h x (tail-ticks x y s t)))

-- a set with members is not empty
pub some-member : (x : ℕ) (s : List ℕ) → ticks_in x s ≡ true → s ≢ []
some-member x s h e = let bad : true ≡ false = sym h ∙ ap (ticks_in x) e in absurd (cc)
