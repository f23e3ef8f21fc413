-- Runs of bytes, seen through the bits of a vector.
use Rattle.std.proofs.Common.{◌≡◌, ℕ, ◌+◌, ◌*◌, ◌%◌, ◌^◌, ◌<◌, ◌≤◌, Bool, true, false, not, cond, eqb, List, [], ◌∷◌, map, length, drop, refl, sym, ap, ap₂}
use Rattle.std.proofs.Common.{◌∙◌, arith, w8, Fits}
use Rattle.std.proofs.lemmas.Simd.{chunk-drop, length-chunk, map-map, mask_l-mod, leading_from_mask_l, trailing_mask_l}
use Rattle.std.proofs.lemmas.List.{length-drop, length-map}
use Rattle.std.proofs.lemmas.List.Folds.{prefix_len-append}
use Rattle.std.proofs.lemmas.List.Sums.{prefix_len-le-length}
use Rattle.std.proofs.lemmas.Bool.{agree_below, agree_below_at, eq-eqb, ne_eqb}
use Rattle.std.specs.List.{prefix_len}
use lib.Lanes.{chunk, mask_l, top, Each1}
use lib.Count.{count_trailing_zeros}

each-byte : (f p : ℕ → Bool) → agree_below f p 256 ≡ true → (v : List ℕ) → Each1 (Fits w8) v → map f v ≡ map p v
each-byte f p all [] fits = refl
each-byte f p all (x ∷ xs) fits = ap₂ (λ a b. a ∷ b) (agree_below_at f p 256 x all fits.0.fits) (each-byte f p all xs fits.1)

pub run-bound : (q : ℕ → Bool) (d : List ℕ) (i : ℕ) → i ≤ length d → i + prefix_len q (drop i d) ≤ length d
run-bound q d i h = omega (arith, prefix_len-le-length q (drop i d), length-drop i d)

-- the bits of a vector that is computed lane by lane, where the top bits agree with a test at each of the 256 bytes
pub bits-of : (f : ℕ → ℕ) (p : ℕ → Bool) (v z : List ℕ) → length v ≤ 64 → Each1 (Fits w8) v → z ≡ map f v → agree_below (λ x. top 7 (f x)) p 256 ≡ true
    → mask_l (map (top 7) z) % 2 ^ 64 ≡ mask_l (map p v)
bits-of f p v z short fits e all =
    ap (λ l. mask_l l % 2 ^ 64) (ap (map (top 7)) e ∙ map-map (top 7) f v ∙ each-byte (λ x. top 7 (f x)) p all v fits)
    ∙ mask_l-mod (map p v) 64 (omega (arith, length-map v p))

none-passes : (b : Bool) (n l m : ℕ) → n ≤ l → cond (not b) (1 + n) 0 ≡ 1 + l → (n ≡ l → m ≡ 0) → cond b 1 0 + 2 * m ≡ 0
none-passes true n l m le e ih = let no : ⊥ = omega arith in absurd no
none-passes false n l m le e ih = let z = ih (omega arith) in omega arith

module _ (p : ℕ → Bool) where
  abbrev other : ℕ → Bool
  other x = not (p x)

  all-other : (xs : List ℕ) → prefix_len other xs ≡ length xs → mask_l (map p xs) ≡ 0
  all-other [] e = refl
  all-other (x ∷ xs) e = none-passes (p x) _ (length xs) _ (prefix_len-le-length other xs) (omega arith) (all-other xs)

  split : (d : List ℕ) (i n : ℕ) → prefix_len other (drop i d)
      ≡ cond (eqb (prefix_len other (chunk i n d)) (length (chunk i n d))) (length (chunk i n d) + prefix_len other (drop (i + n) d))
      (prefix_len other (chunk i n d))
  split d i n = ap (prefix_len other) (chunk-drop i n d) ∙ prefix_len-append other (chunk i n d) (drop (i + n) d)

  -- no bit is set: the run goes through all of these bytes
  pub run-through : (d : List ℕ) (i n : ℕ) → i + n ≤ length d → mask_l (map p (chunk i n d)) ≡ 0
      → prefix_len other (drop i d) ≡ n + prefix_len other (drop (i + n) d)
  run-through d i n room none =
      let c = chunk i n d in
      split d i n ∙ ap (λ b. cond b (length c + prefix_len other (drop (i + n) d)) (prefix_len other c)) (eq-eqb _ _ (leading_from_mask_l p c none))
      ∙ ap (λ k. k + prefix_len other (drop (i + n) d)) (length-chunk i n d room)

  -- the lowest bit that is set is where it stops
  pub run-stops : (d : List ℕ) (i n : ℕ) → i + n ≤ length d → n ≤ 64 → 0 < mask_l (map p (chunk i n d))
      → prefix_len other (drop i d) ≡ count_trailing_zeros 64 (mask_l (map p (chunk i n d)))
  run-stops d i n room short some =
      let c = chunk i n d in
      split d i n ∙ ap (λ b. cond b (length c + prefix_len other (drop (i + n) d)) (prefix_len other c))
      (ne_eqb _ _ (λ (e : prefix_len other c ≡ length c). omega (arith, all-other c e)))
      ∙ sym (trailing_mask_l p 64 c (omega (arith, length-chunk i n d room)) some)
