-- The greatest of what a function gives at each element, step by step.
use Rattle.std.proofs.Common.{◌≡◌, ℕ, ◌+◌, ◌<◌, List, [], ◌∷◌, ◌++◌, length, get_or, take, map, max, sym, ap, ◌∙◌, arith}
use Rattle.std.proofs.lemmas.List.{take_more, map_push}
use Rattle.ccsl_kernel.specs.Cells.{greatest}

pub greatest_push : (ns : List ℕ) (n : ℕ) → greatest (ns ++ n ∷ []) ≡ max (greatest ns) n
greatest_push [] n = omega arith
greatest_push (k ∷ ns) n = ap (max k) (greatest_push ns n) ∙ (let s : max k (max (greatest ns) n) ≡ max (max k (greatest ns)) n = omega arith in s)

-- one element more, of what is made of the elements
pub greatest_more : {A B : Type 0} (g : A → B) (f : B → ℕ) (xs : List A) (i : ℕ) (d : A) → i < length xs →
    max (greatest (map f (map g (take i xs)))) (f (g (get_or xs i d))) ≡ greatest (map f (map g (take (i + 1) xs)))
greatest_more g f xs i d l =
    sym
    (ap (λ r. greatest (map f (map g r))) (take_more xs i d l)
    ∙ ap (λ r. greatest (map f r)) (map_push g (take i xs) (get_or xs i d))
    ∙ ap greatest (map_push f (map g (take i xs)) (g (get_or xs i d)))
    ∙ greatest_push (map f (map g (take i xs))) (f (g (get_or xs i d))))
