-- Counts of ticks over a stretch of steps, and clocks that are gone.
use Rattle.std.proofs.Common.{◌≡◌, ℕ, ◌+◌, ◌<◌, ◌≤◌, length, List, [], ◌∷◌, ◌++◌, map, Bool, true, false, refl, ap, ◌∙◌, arith}
use Rattle.ccsl_kernel.specs.Ticks.{count, ever}
use Rattle.ccsl_kernel.specs.Lives.{Step, steps}
use Rattle.ccsl_kernel.proofs.Silent.{AreGoneQuiet}
use Rattle.ccsl_kernel.proofs.Steps.{steps-empty, steps-split, from_birth}
use Rattle.ccsl_kernel.proofs.Counts.{count_from}

pub count-first : (t : ℕ → Bool) (b : ℕ) → count_from t b b ≡ 0
count-first t b = ap (λ xs. count (map t xs)) (steps-empty b b (omega arith))

count-append : (xs ys : List Bool) → count (xs ++ ys) ≡ count xs + count ys
count-append [] ys = omega arith
count-append (true ∷ xs) ys = let ih = count-append xs ys in omega arith
count-append (false ∷ xs) ys = count-append xs ys

map-append : (t : ℕ → Bool) (xs ys : List ℕ) → map t (xs ++ ys) ≡ map t xs ++ map t ys
map-append t [] ys = refl
map-append t (x ∷ xs) ys = ap (λ zs. t x ∷ zs) (map-append t xs ys)

pub count-split : (t : ℕ → Bool) (b k n : ℕ) → b ≤ k → k ≤ n → count_from t b n ≡ count_from t b k + count_from t k n
count-split t b k n l l' =
    ap (λ xs. count (map t xs)) (steps-split b k n l l') ∙ ap count (map-append t (steps b k) (steps k n))
    ∙ count-append (map t (steps b k)) (map t (steps k n))

-- there is a tick where there is at least one
pub ever-count : (ts : List Bool) → ever ts ≡ true → 1 ≤ count ts
ever-count [] h = let z : ⊥ = cc in absurd z
ever-count (true ∷ ts) h = omega arith
ever-count (false ∷ ts) h = ever-count ts h

pub count-ever : (ts : List Bool) → 1 ≤ count ts → ever ts ≡ true
count-ever [] h = let z : ⊥ = omega arith in absurd z
count-ever (true ∷ ts) h = refl
count-ever (false ∷ ts) h = count-ever ts h

-- a gone clock stays gone
pub stays-gone : (T : List Step) (gone : ℕ → ℕ → Bool) → AreGoneQuiet T gone → (c k n : ℕ) → k ≤ n → n < length T → gone k c ≡ true → gone n c ≡ true
stays-gone T gone quiet c k n l u h =
    from_birth (λ n. n < length T → gone n c ≡ true) k (λ u. h) (λ n l ih u. quiet.stays n c (omega arith) (ih (omega arith))) n l u
