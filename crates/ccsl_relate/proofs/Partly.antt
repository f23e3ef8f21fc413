-- A list whose first items have gone on by a step, one item after the other.
use Rattle.std.proofs.Common.{◌≡◌, ℕ, zero, suc, ◌+◌, ◌<◌, ◌≤◌, List, [], ◌∷◌, ◌++◌, length, map, take, drop, get_or, slice_set, refl, ap, subst, arith}
use Rattle.ccsl_kernel.specs.Accepted.{Each}

module _ {A : Type 0} (f : A → A) where
  -- the first n went on
  abbrev pub partly : ℕ → List A → List A
  partly n xs = map f (take n xs) ++ drop n xs

  -- it goes on
  pub partly-more : (n : ℕ) (xs : List A) (d : A) → n < length xs → slice_set (partly n xs) n (f (get_or xs n d)) ≡ partly (suc n) xs
  partly-more zero [] d l = absurd (omega (arith, l))
  partly-more zero (x ∷ xs) d l = refl
  partly-more (suc n) [] d l = absurd (omega (arith, l))
  partly-more (suc n) (x ∷ xs) d l = ap (λ ys. f x ∷ ys) (partly-more n xs d (omega (arith, l)))

  pub partly-all : (n : ℕ) (xs : List A) → length xs ≤ n → partly n xs ≡ map f xs
  partly-all zero [] l = refl
  partly-all zero (x ∷ xs) l = absurd (omega (arith, l))
  partly-all (suc n) [] l = refl
  partly-all (suc n) (x ∷ xs) l = ap (λ ys. f x ∷ ys) (partly-all n xs (omega (arith, l)))

-- what holds of each item, one item more
pub each-more : {A : Type 0} (P : ℕ → A → Type 0) (i n : ℕ) (xs : List A) (x : A) → Each P i xs → length xs ≡ n → P (i + n) x → Each P i (xs ++ x ∷ [])
each-more P i n [] x e l p = (subst (λ (k : ℕ). P k x) (let s : i + n ≡ i = omega (arith, l) in s) p, tt)
each-more P i n (y ∷ xs) x e l p =
    (e.0, each-more P (suc i) (length xs) xs x e.1 refl (subst (λ (k : ℕ). P k x) (let s : i + n ≡ suc i + length xs = omega (arith, l) in s) p))
