-- What stands at which place of a chain.
use Rattle.std.proofs.Common.{◌≡◌, ℕ, zero, suc, ◌+◌, ◌*◌, ◌<◌, List, [], ◌∷◌, ◌++◌, append-nil, append_assoc, zero-add, map, length, sum, flat_map, Some}
use Rattle.std.proofs.Common.{slice_get, refl, sym, ap, ap₂, ◌∙◌, arith}
use Rattle.std.specs.List.{range_with_len}
use Rattle.std.proofs.lemmas.List.{map_push}
use Rattle.std.proofs.lemmas.List.Concat.{flat_map-append}
use Rattle.std.proofs.lemmas.List.Sums.{sum_by-cons}
use Rattle.ccsl_kernel.specs.Cells.{cells_in}
use Rattle.ccsl_chain.specs.Chain.{all_but_first}

-- a list of two for each number
module _ {X : Type 0} (f g : ℕ → X) where
  abbrev pub two_each : ℕ → ℕ → List X
  two_each a m = flat_map (λ i. f i ∷ g i ∷ []) (range_with_len a m)

  pub length-two_each : (a m : ℕ) → length (two_each a m) ≡ 2 * m
  length-two_each a zero = refl
  length-two_each a (suc m) = omega (arith, length-two_each (a + 1) m)

  pub first-two_each : (a m k i : ℕ) → k < m → a + k ≡ i → slice_get (two_each a m) (2 * k) ≡ Some (f i)
  first-two_each a zero k i l e = absurd (omega arith)
  first-two_each a (suc m) zero i l e = ap (λ j. Some (f j)) (let s : a ≡ i = omega arith in s)
  first-two_each a (suc m) (suc k) i l e =
      ap (slice_get (two_each a (suc m))) (let s : 2 * suc k ≡ suc (suc (2 * k)) = omega arith in s) ∙ first-two_each (a + 1) m k i (omega arith) (omega arith)

  pub second-two_each : (a m k i : ℕ) → k < m → a + k ≡ i → slice_get (two_each a m) (2 * k + 1) ≡ Some (g i)
  second-two_each a zero k i l e = absurd (omega arith)
  second-two_each a (suc m) zero i l e = ap (λ j. Some (g j)) (let s : a ≡ i = omega arith in s)
  second-two_each a (suc m) (suc k) i l e =
      ap (slice_get (two_each a (suc m))) (let s : 2 * suc k + 1 ≡ suc (suc (2 * k + 1)) = omega arith in s)
      ∙ second-two_each (a + 1) m k i (omega arith) (omega arith)

-- one for each number
pub slice_get-range : {X : Type 0} (f : ℕ → X) (a m k i : ℕ) → k < m → a + k ≡ i → slice_get (map f (range_with_len a m)) k ≡ Some (f i)
slice_get-range f a zero k i l e = absurd (omega arith)
slice_get-range f a (suc m) zero i l e = ap (λ j. Some (f j)) (let s : a ≡ i = omega arith in s)
slice_get-range f a (suc m) (suc k) i l e = slice_get-range f (a + 1) m k i (omega arith) (omega arith)

-- one number more
range-more : (a n j : ℕ) → a + n ≡ j → range_with_len a (n + 1) ≡ range_with_len a n ++ j ∷ []
range-more a n j e = ap (range_with_len a) (let s : n + 1 ≡ suc n = omega arith in s) ∙ last a n j e
  where
    last : (a n j : ℕ) → a + n ≡ j → range_with_len a (suc n) ≡ range_with_len a n ++ j ∷ []
    last a zero j e = ap (λ k. k ∷ []) (let s : a ≡ j = omega arith in s)
    last a (suc n) j e = ap (λ ks. a ∷ ks) (last (a + 1) n j (omega arith))

-- what a loop over the numbers has made
pub one_more : {X Y : Type 0} (p : X → Y) (f : ℕ → Y) (old new : List X) (x : X) (i : ℕ) → map p old ≡ map f (range_with_len 0 i) → p x ≡ f i
    → new ≡ old ++ x ∷ [] →
    map p new ≡ map f (range_with_len 0 (i + 1))
one_more {X} {Y} p f old new x i e h is =
    ap (map p) is ∙ map_push p old x ∙ ap₂ (λ (ys : List Y) (y : Y). ys ++ y ∷ []) e h ∙ sym (map_push f (range_with_len 0 i) i)
    ∙ ap (map f) (sym (range-more 0 i i (zero-add i)))

pub some_more : {X : Type 0} (f : ℕ → List X) (old new : List X) (i : ℕ) → old ≡ flat_map f (range_with_len 0 i) → new ≡ old ++ f i
    → new ≡ flat_map f (range_with_len 0 (i + 1))
some_more {X} f old new i e is =
    is ∙ ap₂ (λ (xs ys : List X). xs ++ ys) e (sym (append-nil (f i)))
    ∙ sym (flat_map-append f (range_with_len 0 i) (i ∷ []))
    ∙ ap (flat_map f) (sym (range-more 0 i i (zero-add i)))

pub two_more : {X : Type 0} (old between new : List X) (x y a b : X) → between ≡ old ++ x ∷ [] → x ≡ a → new ≡ between ++ y ∷ [] → y ≡ b
    → new ≡ old ++ (a ∷ b ∷ [])
two_more {X} old between new x y a b is e is' e' =
    is' ∙ ap₂ (λ (xs : List X) (z : X). xs ++ z ∷ []) (is ∙ ap (λ z. old ++ z ∷ []) e) e' ∙ append_assoc old (a ∷ []) (b ∷ [])

-- two cells for each definition
pub cells-definitions : (earlier : List ℕ) (a m : ℕ) → sum (map (cells_in earlier) (map all_but_first (range_with_len a m))) ≡ 2 * m
cells-definitions earlier a zero = refl
cells-definitions earlier a (suc m) =
    let rest = map (cells_in earlier) (map all_but_first (range_with_len (a + 1) m)) in
    omega (arith, cells-definitions earlier (a + 1) m, sum_by-cons (λ (x : ℕ). x) 2 rest)
