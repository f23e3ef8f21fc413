-- What holds of each element and its number, by places.
use Rattle.std.proofs.Common.{◌≡◌, ℕ, zero, suc, ◌+◌, ◌<◌, List, [], ◌∷◌, length, get_or, sym, subst, zero-add, below_more, arith}
use Rattle.std.specs.Prelude.{All, map}
use Rattle.std.proofs.lemmas.List.{get_or-map, length-map}
use Rattle.ccsl_kernel.specs.Accepted.{Each}

pub each_at : {A : Type 0} (P : ℕ → A → Type 0) (i : ℕ) (xs : List A) (k : ℕ) (d : A) → k < length xs → Each P i xs → P (i + k) (get_or xs k d)
each_at P i [] k d l h = absurd (omega (arith, l))
each_at {A} P i (x ∷ xs) zero d l h = subst (λ (n : ℕ). P n x) (let s : i ≡ i + 0 = omega arith in s) h.0
each_at {A} P i (x ∷ xs) (suc k) d l h =
    subst (λ (n : ℕ). P n (get_or xs k d)) (let s : suc i + k ≡ i + suc k = omega arith in s) (each_at P (suc i) xs k d (omega (arith, l)) h.1)

pub each_from : {A : Type 0} (P : ℕ → A → Type 0) (i : ℕ) (xs : List A) → ((k : ℕ) (d : A) → k < length xs → P (i + k) (get_or xs k d)) → Each P i xs
each_from P i [] h = tt
each_from {A} P i (x ∷ xs) h = (
  subst (λ (n : ℕ). P n x) (let s : i + 0 ≡ i = omega arith in s) (h 0 x (omega arith)),
  each_from P (suc i) xs (λ k d l. subst (λ (n : ℕ). P n (get_or xs k d)) (let s : i + suc k ≡ suc i + k = omega arith in s)
      (h (suc k) d (let s : suc k < suc (length xs) = omega (arith, l) in s))),
)

-- the same from 0 on
pub each_zero_at : {A : Type 0} (P : ℕ → A → Type 0) (xs : List A) (k : ℕ) (d : A) → k < length xs → Each P 0 xs → P k (get_or xs k d)
each_zero_at {A} P xs k d l h = subst (λ (n : ℕ). P n (get_or xs k d)) (zero-add k) (each_at P 0 xs k d l h)

pub each_zero_from : {A : Type 0} (P : ℕ → A → Type 0) (xs : List A) → ((k : ℕ) (d : A) → k < length xs → P k (get_or xs k d)) → Each P 0 xs
each_zero_from {A} P xs h = each_from P 0 xs (λ k d l. subst (λ (n : ℕ). P n (get_or xs k d)) (sym (zero-add k)) (h k d l))

-- what holds below a place and at it holds below the next
pub each_below : {A : Type 0} (P : ℕ → A → Type 0) (i : ℕ) (xs : List A) → ((k : ℕ) (d : A) → k < i → P k (get_or xs k d)) → ((d : A) → P i (get_or xs i d)) →
    (k : ℕ) (d : A) → k < i + 1 → P k (get_or xs k d)
each_below {A} P i xs before here k d l = below_more (λ (k : ℕ). (d : A) → P k (get_or xs k d)) i (λ k l d. before k d l) here k l d

-- the same of what is made of each element
pub each_made_at : {A B : Type 0} (P : ℕ → B → Type 0) (f : A → B) (i : ℕ) (xs : List A) (k : ℕ) (d : A) → k < length xs → Each P i (map f xs)
    → P (i + k) (f (get_or xs k d))
each_made_at P f i [] k d l h = absurd (omega (arith, l))
each_made_at P f i (x ∷ xs) zero d l h = subst (λ (n : ℕ). P n (f x)) (let s : i ≡ i + 0 = omega arith in s) h.0
each_made_at P f i (x ∷ xs) (suc k) d l h =
    subst (λ (n : ℕ). P n (f (get_or xs k d))) (let s : suc i + k ≡ i + suc k = omega arith in s) (each_made_at P f (suc i) xs k d (omega (arith, l)) h.1)

pub each_made_from : {A B : Type 0} (P : ℕ → B → Type 0) (f : A → B) (i : ℕ) (xs : List A) → ((k : ℕ) (d : A) → k < length xs → P (i + k) (f (get_or xs k d)))
    → Each P i (map f xs)
each_made_from P f i [] h = tt
each_made_from {A} P f i (x ∷ xs) h = (
  subst (λ (n : ℕ). P n (f x)) (let s : i + 0 ≡ i = omega arith in s) (h 0 x (omega arith)),
  each_made_from P f (suc i) xs
      (λ k d l. subst (λ (n : ℕ). P n (f (get_or xs k d))) (let s : i + suc k ≡ suc i + k = omega arith in s)
      (h (suc k) d (let s : suc k < suc (length xs) = omega (arith, l) in s))),
)

pub all_made_at : {A B : Type 0} (P : B → Type 0) (f : A → B) (xs : List A) → All P (map f xs) → All (λ x. P (f x)) xs
all_made_at P f xs all = λ k d l. subst P (get_or-map f xs k d (f d) l) (all k (f d) (let s : k < length (map f xs) = omega (arith, l, length-map xs f) in s))
