-- Lists that are read from the left, element by element.
use Rattle.std.proofs.Common.{◌≡◌, ◌⊎◌, ℕ, zero, suc, ◌<◌, List, [], ◌∷◌, ◌++◌, length, drop, get_or, Some, sym, ap, ◌∙◌, inl, inr, slice_get, take}
use Rattle.std.proofs.Math.Seq.{drop-cons, take-suc}

pub drop-read : {A : Type 0} (xs : List A) (i k : ℕ) (d : A) → i < length xs → k ≡ suc i → drop i xs ≡ get_or xs i d ∷ drop k xs
drop-read xs i k d l e = rw e (drop-cons xs i d l)

-- the elements up to one, and from one on
pub drop-at : {A : Type 0} (xs : List A) (i k : ℕ) (x : A) → i < length xs → k ≡ suc i → x ≡ get_or xs i x → drop i xs ≡ x ∷ drop k xs
drop-at xs i k x l e h = drop-read xs i k x l e ∙ ap (λ y. y ∷ drop k xs) (sym h)

pub take-at : {A : Type 0} (xs : List A) (i k : ℕ) (x : A) → i < length xs → k ≡ suc i → x ≡ get_or xs i x → take k xs ≡ take i xs ++ x ∷ []
take-at xs i k x l e h = ap (λ n. take n xs) e ∙ take-suc xs i x l ∙ ap (λ y. take i xs ++ y ∷ []) (sym h)

-- an element of a list and one more
pub snoc-get : {A : Type 0} (xs : List A) (y x : A) (i : ℕ) → slice_get (xs ++ y ∷ []) i ≡ Some x → (slice_get xs i ≡ Some x) ⊎ (x ≡ y)
snoc-get [] y x zero e = inr (cc)
snoc-get [] y x (suc i) e = absurd (cc)
snoc-get (z ∷ xs) y x zero e = inl e
snoc-get (z ∷ xs) y x (suc i) e = snoc-get xs y x i e
