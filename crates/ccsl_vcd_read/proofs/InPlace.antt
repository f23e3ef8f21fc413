-- A loop that maps a function over a list in place.
use Rattle.std.proofs.Common.{◌≡◌, ℕ, ◌+◌, ◌<◌, ◌≤◌, List, [], ◌∷◌, ◌++◌, length, take, drop, get_or, map, sym, ap, ◌∙◌, arith, drop-cons, add-one}
use Rattle.std.proofs.Math.ListN.{set}
use Rattle.std.proofs.lemmas.List.{take_more, take_more_set, take_all, drop-set-lt, map-append}

-- one more element
pub record Further {X : Type 0} (f : X → X) (init now : List X) (i : ℕ) : Type 0 where
  pub front : take i now ≡ map f (take i init)
  pub back : drop i now ≡ drop i init

same-front : {X : Type 0} (x y : X) (xs ys : List X) → x ∷ xs ≡ y ∷ ys → (x ≡ y) × (xs ≡ ys)
same-front x y xs ys e = (cc, cc)

pub goes-on : {X : Type 0} (f : X → X) (init now : List X) (i : ℕ) (d y : X) → i < length now → length now ≡ length init → Further f init now i
    → y ≡ f (get_or now i d)
    → Further f init (set now i y) (i + 1)
goes-on f init now i d y h l w e =
    let h' : i < length init = omega arith in
    let s = same-front (get_or now i d) (get_or init i d) (drop (i + 1) now) (drop (i + 1) init)
    (ap (λ k. get_or now i d ∷ drop k now) (add-one i) ∙ sym (drop-cons now i d h) ∙ w.back ∙ drop-cons init i d h'
    ∙ ap (λ k. get_or init i d ∷ drop k init) (sym (add-one i))) in
    record {
      front = take_more_set now i y h ∙ ap (λ xs. xs ++ y ∷ []) w.front ∙ ap (λ x. map f (take i init) ++ x ∷ []) (e ∙ ap f s.0)
          ∙ sym (map-append f (take i init) (get_or init i d ∷ [])) ∙ ap (map f) (sym (take_more init i d h'));
      back = drop-set-lt (i + 1) now i y (omega arith) ∙ s.1;
    }

pub ends : {X : Type 0} (f : X → X) (init now : List X) (i : ℕ) → length now ≤ i → length now ≡ length init → Further f init now i → now ≡ map f init
ends f init now i h l w = sym (take_all i now h) ∙ w.front ∙ ap (map f) (take_all i init (omega arith))
