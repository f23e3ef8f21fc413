-- Facts of each element, one by one, and of lists put together.
use Rattle.std.proofs.Common.{◌≡◌, ℕ, zero, suc, ◌+◌, ◌<◌, ◌≤◌, List, [], ◌∷◌, ◌++◌, length, drop, slice_index_or, refl, ap, subst, arith}
use Rattle.std.specs.Prelude.{All}
use Rattle.std.specs.List.{AllByRecursion}
use Rattle.ccsl_kernel.specs.Accepted.{Each}

listed-step : {X : Type 0} (P : X → Type 0) (x : X) (xs : List X) → P x → All P xs → (k : ℕ) (d : X) → k < length (x ∷ xs) → P (slice_index_or (x ∷ xs) k d)
listed-step P x xs p a zero d l = p
listed-step P x xs p a (suc k) d l = a k d (omega arith)

pub all-listed : {X : Type 0} (P : X → Type 0) (xs : List X) → AllByRecursion P xs → All P xs
all-listed P [] a = λ k d l. absurd (omega (arith, l))
all-listed P (x ∷ xs) a = listed-step P x xs a.0 (all-listed P xs a.1)

pub one-on : {X : Type 0} (done : List X) (b : X) (bs : List X) → done ++ (b ∷ bs) ≡ (done ++ b ∷ []) ++ bs
one-on [] b bs = refl
one-on (x ∷ done) b bs = ap (λ l. x ∷ l) (one-on done b bs)

pub each-append : {X : Type 0} (P : ℕ → X → Type 0) (i : ℕ) (xs ys : List X) → Each P i xs → Each P (i + length xs) ys → Each P i (xs ++ ys)
each-append P i [] ys a b = let e : i + 0 ≡ i = omega arith in subst (λ n. Each P n ys) e b
each-append P i (x ∷ xs) ys a b =
    let e : i + suc (length xs) ≡ suc i + length xs = omega arith in
    (a.0, each-append P (suc i) xs ys a.1 (subst (λ n. Each P n ys) e b))

pub no-more : {X : Type 0} (n : ℕ) (xs : List X) → drop n xs ≡ [] → length xs ≤ n
no-more n [] e = omega arith
no-more zero (x ∷ xs) e = absurd (cc)
no-more (suc n) (x ∷ xs) e = let r = no-more n xs e in omega arith
