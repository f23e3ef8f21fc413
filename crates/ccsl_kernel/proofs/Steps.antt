-- Laws of the steps from a birth on.
use Rattle.std.proofs.Common.{append-nil, append_assoc, ◌≡◌, ℕ, zero, suc, ◌<◌, ◌≤◌, List, [], ◌∷◌, ◌++◌, map, find, Bool, true, false, cond, Option, Some}
use Rattle.std.proofs.Common.{None, refl, sym, ap, ⊎_elim, ap₂, ◌∙◌, subst, arith, le-leb}
use Rattle.std.proofs.lemmas.Bool.{lt-leb, cases_lt}
use Rattle.ccsl_kernel.specs.Lives.{steps}

abbrev pub or_else : Option ℕ → Option ℕ → Option ℕ
or_else None r = r
or_else (Some x) r = Some x

abbrev pub if_at : Bool → ℕ → Option ℕ
if_at true n = Some n
if_at false n = None

pub steps-suc : (b n : ℕ) → b ≤ n → steps b (suc n) ≡ steps b n ++ n ∷ []
steps-suc b n l = ap (λ t. cond t (steps b n ++ n ∷ []) []) (le-leb b n l)

pub steps-empty : (b n : ℕ) → n ≤ b → steps b n ≡ []
steps-empty b zero l = refl
steps-empty b (suc n) l = ap (λ t. cond t (steps b n ++ n ∷ []) []) (lt-leb b n l)

pub map-snoc : {X Y : Type 0} (f : X → Y) (xs : List X) (x : X) → map f (xs ++ x ∷ []) ≡ map f xs ++ f x ∷ []
map-snoc f [] x = refl
map-snoc f (y ∷ xs) x = ap (λ ys. f y ∷ ys) (map-snoc f xs x)

pub find-snoc : (f : ℕ → Bool) (xs : List ℕ) (x : ℕ) → find f (xs ++ x ∷ []) ≡ or_else (find f xs) (if_at (f x) x)
find-snoc f [] x = elim (f x) as (λ t. cond t (Some x) None ≡ if_at t x) [ true ↦ refl | false ↦ refl ]
find-snoc f (y ∷ xs) x =
    elim (f y) as (λ t. cond t (Some y) (find f (xs ++ x ∷ [])) ≡ or_else (cond t (Some y) (find f xs)) (if_at (f x) x)) [
      | true ↦ refl
      | false ↦ find-snoc f xs x
    ]

pub map-steps-suc : {X : Type 0} (f : ℕ → X) (b n : ℕ) → b ≤ n → map f (steps b (suc n)) ≡ map f (steps b n) ++ f n ∷ []
map-steps-suc f b n l = ap (map f) (steps-suc b n l) ∙ map-snoc f (steps b n) n

pub find-steps-suc : (f : ℕ → Bool) (b n : ℕ) → b ≤ n → find f (steps b (suc n)) ≡ or_else (find f (steps b n)) (if_at (f n) n)
find-steps-suc f b n l = ap (find f) (steps-suc b n l) ∙ find-snoc f (steps b n) n

-- either order of two numbers
pub by_order : {P : Type 0} (b n : ℕ) → (b ≤ n → P) → (n < b → P) → P
by_order b n up down = ⊎_elim down up (cases_lt n b)

-- a fact at b that goes from each step to the next holds from b on
pub from_birth : (P : ℕ → Type 0) (b : ℕ) → P b → ((n : ℕ) → b ≤ n → P n → P (suc n)) → (n : ℕ) → b ≤ n → P n
from_birth P b first next zero l = let e : b ≡ 0 = omega arith in subst P e first
from_birth P b first next (suc n) l =
    by_order b n (λ l. next n l (from_birth P b first next n l))
    (λ l'. let same : b ≡ suc n = omega arith in subst P same first)

-- two functions that agree from b to n - 1 give the same over these steps
pub map-steps : {X : Type 0} (f g : ℕ → X) (b n : ℕ) → ((i : ℕ) → b ≤ i → i < n → f i ≡ g i) → map f (steps b n) ≡ map g (steps b n)
map-steps f g b zero h = refl
map-steps {X} f g b (suc n) h =
    by_order b n
    (λ l.
    map-steps-suc f b n l
    ∙ ap₂ (λ (xs : List X) (x : X). xs ++ x ∷ []) (map-steps f g b n (λ i l u. h i l (omega arith))) (h n l (omega arith))
    ∙ sym (map-steps-suc g b n l))
    (λ l. ap (map f) (steps-empty b (suc n) l) ∙ sym (ap (map g) (steps-empty b (suc n) l)))

pub find-steps : (f g : ℕ → Bool) (b n : ℕ) → ((i : ℕ) → b ≤ i → i < n → f i ≡ g i) → find f (steps b n) ≡ find g (steps b n)
find-steps f g b zero h = refl
find-steps f g b (suc n) h =
    by_order b n
    (λ l.
    find-steps-suc f b n l
    ∙ ap₂ (λ o t. or_else o (if_at t n)) (find-steps f g b n (λ i l u. h i l (omega arith))) (h n l (omega arith))
    ∙ sym (find-steps-suc g b n l))
    (λ l. ap (find f) (steps-empty b (suc n) l) ∙ sym (ap (find g) (steps-empty b (suc n) l)))

none_some : {k : ℕ} {P : Type 0} → None ≡ Some k → P
none_some e = let z : ⊥ = cc in absurd z

-- what find gives is one of the steps, and passes
pub find-within : (f : ℕ → Bool) (b n k : ℕ) → find f (steps b n) ≡ Some k → (b ≤ k) × (k < n)
find-within f b zero k e = none_some e
find-within f b (suc n) k e =
    by_order b n
    (λ l. here (find f (steps b n)) (f n) l (λ w. find-within f b n k w) (sym (find-steps-suc f b n l) ∙ e))
    (λ l. none_some (sym (ap (find f) (steps-empty b (suc n) l)) ∙ e))
  where
    here : (o : Option ℕ) (t : Bool) → b ≤ n → (o ≡ Some k → (b ≤ k) × (k < n)) → or_else o (if_at t n) ≡ Some k → (b ≤ k) × (k < suc n)
    here (Some j) t l ih e = let r = ih e in (r.0, omega (arith, r.1))
    here None true l ih e = let s : n ≡ k = cc in (omega arith, omega arith)
    here None false l ih e = none_some e

pub find-none : (f : ℕ → Bool) (b n : ℕ) → find f (steps b n) ≡ None → (i : ℕ) → b ≤ i → i < n → f i ≡ false
find-none f b zero e i l u = let z : ⊥ = omega arith in absurd z
find-none f b (suc n) e i l u =
    let l' : b ≤ n = omega arith in
    here (find f (steps b n)) (f n) refl (λ w. find-none f b n w) (sym (find-steps-suc f b n l') ∙ e)
  where
    here : (o : Option ℕ) (t : Bool) → f n ≡ t → (o ≡ None → (i : ℕ) → b ≤ i → i < n → f i ≡ false) → or_else o (if_at t n) ≡ None → f i ≡ false
    here (Some j) t ft ih e = let z : ⊥ = cc in absurd z
    here None true ft ih e = let z : ⊥ = cc in absurd z
    here None false ft ih e = ⊎_elim (λ (s : i < n). ih refl i l s) (λ (s : n ≤ i). let s' : i ≡ n = omega arith in ap f s' ∙ ft) (cases_lt i n)

pub find-some : (f : ℕ → Bool) (b n k : ℕ) → find f (steps b n) ≡ Some k → (f k ≡ true) × ((i : ℕ) → b ≤ i → i < k → f i ≡ false)
find-some f b zero k e = none_some e
find-some f b (suc n) k e =
    by_order b n
    (λ l. here (find f (steps b n)) (f n) l refl refl (λ w. find-some f b n k w) (sym (find-steps-suc f b n l) ∙ e))
    (λ l. none_some (sym (ap (find f) (steps-empty b (suc n) l)) ∙ e))
  where
    here : (o : Option ℕ) (t : Bool) → b ≤ n → find f (steps b n) ≡ o → f n ≡ t → (o ≡ Some k → (f k ≡ true) × ((i : ℕ) → b ≤ i → i < k → f i ≡ false))
        → or_else o (if_at t n) ≡ Some k → (f k ≡ true) × ((i : ℕ) → b ≤ i → i < k → f i ≡ false)
    here (Some j) t l w ft ih e = ih e
    here None true l w ft ih e = let s : n ≡ k = cc in (ap f (sym s) ∙ ft, λ i l' u. find-none f b n w i l' (omega arith))
    here None false l w ft ih e = none_some e

pub steps-split : (b k n : ℕ) → b ≤ k → k ≤ n → steps b n ≡ steps b k ++ steps k n
steps-split b k n l l' =
    from_birth (λ n. steps b n ≡ steps b k ++ steps k n) k
    (sym (ap (λ xs. steps b k ++ xs) (steps-empty k k (omega arith)) ∙ append-nil (steps b k)))
    (λ n l' ih. steps-suc b n (omega arith) ∙ ap (λ xs. xs ++ n ∷ []) ih ∙ append_assoc (steps b k) (steps k n) (n ∷ [])
    ∙ ap (λ xs. steps b k ++ xs) (sym (steps-suc k n l')))
    n l'
