-- What is gathered of a list from its front on, and whether that is nothing.
use Rattle.std.proofs.Common.{◌≡◌, ℕ, suc, ◌+◌, ◌<◌, List, [], ◌∷◌, ◌++◌, Option, Some, None, Bool, true, false, not, nat_eq, length, take}
use Rattle.std.proofs.Common.{inl, inr, refl, sym, ap, ◌∙◌, arith, append-nil}
use Rattle.std.specs.Prelude.{slice_get}
use Rattle.std.specs.List.{filter_map}
use Rattle.std.proofs.Math.Seq.{take-suc}
use Rattle.std.proofs.lemmas.Bool.{cases_eq, eqb-true}
use Rattle.std.proofs.lemmas.List.Elements.{filter_map-append}
use Rattle.std.proofs.lemmas.Option.{slice_get_within, get_or_from_slice_get}

module _ {X Y : Type 0} (h : X → Option Y) (xs : List X) (j : ℕ) (x : X) (is : slice_get xs j ≡ Some x) where
  -- with one item more
  more : filter_map h (take (j + 1) xs) ≡ filter_map h (take j xs) ++ filter_map h (x ∷ [])
  more =
      let e : j + 1 ≡ suc j = omega arith in
      ap (λ n. filter_map h (take n xs)) e
      ∙ ap (filter_map h) (take-suc xs j x (slice_get_within xs j x is))
      ∙ ap (λ y. filter_map h (take j xs ++ y ∷ [])) (get_or_from_slice_get xs j x x is)
      ∙ filter_map-append h (take j xs) (x ∷ [])

  one : (y : Y) → h x ≡ Some y → filter_map h (x ∷ []) ≡ y ∷ []
  one y e = rw e refl

  none : h x ≡ None → filter_map h (x ∷ []) ≡ []
  none e = rw e refl

  pub gather-some : (y : Y) → h x ≡ Some y → filter_map h (take (j + 1) xs) ≡ filter_map h (take j xs) ++ y ∷ []
  gather-some y e = more ∙ ap (λ ys. filter_map h (take j xs) ++ ys) (one y e)

  pub gather-none : h x ≡ None → filter_map h (take (j + 1) xs) ≡ filter_map h (take j xs)
  gather-none e = more ∙ ap (λ ys. filter_map h (take j xs) ++ ys) (none e) ∙ append-nil (filter_map h (take j xs))

-- where nothing was found before a place, nor there
pub none-next : {Y : Type 0} (f : ℕ → List Y) (n : ℕ) → ((x : ℕ) → x < n → length (f x) ≡ 0) → length (f n) ≡ 0 → (x : ℕ) → x < n + 1 → length (f x) ≡ 0
none-next f n before here x below =
    elim (cases_eq x n) [
      | inl same ↦ ap (λ k. length (f k)) same ∙ here
      | inr apart ↦ before x (omega (arith, below, apart))
    ]

-- a list is empty that is not found to have items
pub none-here : {Y : Type 0} (ys : List Y) (is_empty : Bool) → is_empty ≡ nat_eq (length ys) 0 → not is_empty ≡ false → length ys ≡ 0
none-here ys true e some = eqb-true (length ys) 0 (sym e)
none-here ys false e some = let clash : true ≡ false = some in absurd (cc)
