-- Pieces that worked, part by part and one after the other.
use Rattle.std.proofs.Common.{◌≡◌, ℕ, zero, suc, ◌<◌, List, [], ◌∷◌, ◌++◌, length, take, drop, slice_index_or, slice_set, ap, subst, arith}
use Rattle.ccsl_pool.specs.Pairwise.{Pairwise, Every}

pub pairwise_join : {X : Type 0} (R : X → X → Type 0) (xs xs' ys ys' : List X)
    → Pairwise R xs xs' → Pairwise R ys ys' → Pairwise R (xs ++ ys) (xs' ++ ys')
pairwise_join R [] [] ys ys' p q = q
pairwise_join R [] (x' ∷ xs') ys ys' p q = elim p [ ]
pairwise_join R (x ∷ xs) [] ys ys' p q = elim p [ ]
pairwise_join R (x ∷ xs) (x' ∷ xs') ys ys' p q = (p.0, pairwise_join R xs xs' ys ys' p.1 q)

pub every_front : {X : Type 0} (P : X → Type 0) (n : ℕ) (xs : List X) → Every P xs → Every P (take n xs)
every_front P zero xs p = tt
every_front P (suc n) [] p = tt
every_front P (suc n) (x ∷ xs) p = (p.0, every_front P n xs p.1)

pub every_back : {X : Type 0} (P : X → Type 0) (n : ℕ) (xs : List X) → Every P xs → Every P (drop n xs)
every_back P zero xs p = p
every_back P (suc n) [] p = tt
every_back P (suc n) (x ∷ xs) p = every_back P n xs p.1

-- one more piece has worked
pub pairwise_next : {X : Type 0} (R : X → X → Type 0) (n : ℕ) (xs ys : List X) (d v : X)
    → Pairwise R (take n xs) (take n ys) → drop n ys ≡ drop n xs → n < length ys → R (slice_index_or ys n d) v
    → Pairwise R (take (suc n) xs) (take (suc n) (slice_set ys n v)) × (drop (suc n) (slice_set ys n v) ≡ drop (suc n) xs)
pairwise_next R zero xs [] d v p same inside r = absurd (omega (arith, inside))
pairwise_next R zero [] (y ∷ ys) d v p same inside r = absurd (cc same)
pairwise_next R zero (x ∷ xs) (y ∷ ys) d v p same inside r =
    let is : y ≡ x = ap (λ zs. slice_index_or zs 0 y) same in
    ((subst (λ z. R z v) is r, tt), ap (λ zs. drop 1 zs) same)
pairwise_next R (suc n) [] [] d v p same inside r = absurd (omega (arith, inside))
pairwise_next R (suc n) [] (y ∷ ys) d v p same inside r = elim p [ ]
pairwise_next R (suc n) (x ∷ xs) [] d v p same inside r = elim p [ ]
pairwise_next R (suc n) (x ∷ xs) (y ∷ ys) d v p same inside r =
    let next = pairwise_next R n xs ys d v p.1 same (omega (arith, inside)) r in
    ((p.0, next.0), next.1)
