-- Codes and their numbers.
use Rattle.std.proofs.Common.{◌≡◌, ℕ, ◌+◌, suc, ◌<◌, ◌≤◌, List, [], ◌∷◌, ◌++◌, length, Bool, true, false, not, nat_lt, ◌||◌, cond, eqb, Option, Some, None}
use Rattle.std.proofs.Common.{refl, sym, ap, subst, ◌∙◌, arith, length-append}
use Rattle.std.specs.Prelude.{bytes_eq, fold}
use Rattle.std.specs.List.{list_any, position_or_len}
use Rattle.std.proofs.lemmas.Bool.{lt-ltb}
use Rattle.std.proofs.lemmas.List.Folds.{position_or_len_push}
use Rattle.std.proofs.lemmas.Grind.{common_steps, fold-append}
use Rattle.ccsl_base.specs.Names.{is_among, find_name}
use Rattle.ccsl_base.specs.Added.{IsAdded}
use Rattle.ccsl_base.proofs.Tables.{bytes_eq-refl, any-within}
use Rattle.ccsl_scopes.specs.Headings.{Declared, with_code, codes_of}
use Rattle.ccsl_base.proofs.Cases.{not-less}

place-within : {X : Type 0} (p : X → Bool) (xs : List X) → position_or_len p xs ≤ length xs
place-within p [] = omega arith
place-within p (x ∷ xs) =
    elim (p x) as (λ w. cond (not w) (1 + position_or_len p xs) 0 ≤ suc (length xs)) [ true ↦ omega arith | false ↦ omega (arith, place-within p xs) ]

within-lt : (k n : ℕ) → nat_lt k n ≡ true → k < n
within-lt k n e = grind (arith, common_steps)

apart : (k n : ℕ) → k < n → eqb k n ≡ false
apart k n l = grind (arith, common_steps)

same-either : (b : Bool) (n : ℕ) → cond b (n + 0) n ≡ n
same-either true n = omega arith
same-either false n = refl

-- a name that is found is among the names
pub there-among : (name : List ℕ) (names : List (List ℕ)) (i : ℕ) → find_name name names ≡ Some i → is_among name names ≡ true
there-among name names i e = any-within (bytes_eq name) names ∙ by (nat_lt (position_or_len (bytes_eq name) names) (length names)) e
  where
    by : (b : Bool) → cond b (Some (position_or_len (bytes_eq name) names)) None ≡ Some i → b ≡ true
    by true f = refl
    by false f = absurd (cc)

pub none-among : (name : List ℕ) (names : List (List ℕ)) → find_name name names ≡ None → is_among name names ≡ false
none-among name names e = any-within (bytes_eq name) names ∙ by (nat_lt (position_or_len (bytes_eq name) names) (length names)) e
  where
    by : (b : Bool) → cond b (Some (position_or_len (bytes_eq name) names)) None ≡ None → b ≡ false
    by true f = absurd (cc)
    by false f = refl

-- a code that is not there yet gets the next number
pub find-last : (x : List ℕ) (t : List (List ℕ)) → is_among x t ≡ false → find_name x (t ++ x ∷ []) ≡ Some (length t)
find-last x t e = ap (λ k. cond (nat_lt k (length (t ++ x ∷ []))) (Some k) None) last
    ∙ ap (λ b. cond b (Some (length t)) None) (lt-ltb (length t) (length (t ++ x ∷ [])) room)
  where
    room : length t < length (t ++ x ∷ [])
    room = omega (arith, length-append t (x ∷ []))

    past : nat_lt (position_or_len (bytes_eq x) t) (length t) ≡ false
    past = sym (any-within (bytes_eq x) t) ∙ e

    whole : position_or_len (bytes_eq x) t ≡ length t
    whole =
        let inside : position_or_len (bytes_eq x) t ≤ length t = place-within (bytes_eq x) t in
        let outside : length t ≤ position_or_len (bytes_eq x) t = not-less (position_or_len (bytes_eq x) t) (length t) past in
        omega arith

    last : position_or_len (bytes_eq x) (t ++ x ∷ []) ≡ length t
    last =
        position_or_len_push (bytes_eq x) t x
        ∙ ap (λ b. cond (eqb (position_or_len (bytes_eq x) t) (length t)) (length t + cond b 0 1) (position_or_len (bytes_eq x) t)) (bytes_eq-refl x x refl)
        ∙ ap (λ k. cond (eqb (position_or_len (bytes_eq x) t) (length t)) (length t + 0) k) whole
        ∙ same-either (eqb (position_or_len (bytes_eq x) t) (length t)) (length t)

-- numbers stay as codes are added
pub find-grow : (x y : List ℕ) (t : List (List ℕ)) (i : ℕ) → find_name x t ≡ Some i → find_name x (t ++ y ∷ []) ≡ Some i
find-grow x y t i e = ap (λ k. cond (nat_lt k (length (t ++ y ∷ []))) (Some k) None) same
    ∙ ap (λ b. cond b (Some (position_or_len (bytes_eq x) t)) None) (lt-ltb (position_or_len (bytes_eq x) t) (length (t ++ y ∷ [])) room) ∙ here
  where
    within : nat_lt (position_or_len (bytes_eq x) t) (length t) ≡ true
    within = sym (any-within (bytes_eq x) t) ∙ there-among x t i e

    here : Some (position_or_len (bytes_eq x) t) ≡ Some i
    here = sym (ap (λ b. cond b (Some (position_or_len (bytes_eq x) t)) None) within) ∙ e

    before : position_or_len (bytes_eq x) t < length t
    before = within-lt (position_or_len (bytes_eq x) t) (length t) within

    room : position_or_len (bytes_eq x) t < length (t ++ y ∷ [])
    room = omega (arith, before, length-append t (y ∷ []))

    same : position_or_len (bytes_eq x) (t ++ y ∷ []) ≡ position_or_len (bytes_eq x) t
    same = position_or_len_push (bytes_eq x) t y
        ∙ ap (λ b. cond b (length t + cond (bytes_eq x y) 0 1) (position_or_len (bytes_eq x) t)) (apart (position_or_len (bytes_eq x) t) (length t) before)

pub find-kept : (x y : List ℕ) (t : List (List ℕ)) (i : ℕ) → find_name x t ≡ Some i → find_name x (with_code t y) ≡ Some i
find-kept x y t i e = elim (is_among y t) as (λ w. find_name x (cond w t (t ++ y ∷ [])) ≡ Some i) [ true ↦ e | false ↦ find-grow x y t i e ]

-- one declaration more
pub codes-more : (ds : List Declared) (d : Declared) → codes_of (ds ++ d ∷ []) ≡ with_code (codes_of ds) d.code
codes-more ds d = fold-append (λ known x. with_code known x.code) [] ds (d ∷ [])

with-length : (t : List (List ℕ)) (y : List ℕ) → length (with_code t y) ≤ length t + 1
with-length t y = elim (is_among y t) as (λ w. length (cond w t (t ++ y ∷ [])) ≤ length t + 1)
    [ true ↦ omega arith | false ↦ omega (arith, length-append t (y ∷ [])) ]

fold-length : (ds : List Declared) (t : List (List ℕ)) → length (fold (λ known d. with_code known d.code) t ds) ≤ length t + length ds
fold-length [] t = omega arith
fold-length (d ∷ ds) t = omega (arith, fold-length ds (with_code t d.code), with-length t d.code)

pub few-codes : (ds : List Declared) → length (codes_of ds) ≤ length ds
few-codes ds = omega (arith, fold-length ds [])

pub added-last : (old new : List (List ℕ)) (name : List ℕ) (o : Option ℕ) → find_name name old ≡ None → IsAdded old new name o →
    find_name name new ≡ Some (length old)
added-last old new name None e h = absurd (let f = none-among name old e in let g : true ≡ false = sym h.0 ∙ f in cc)
added-last old new name (Some n) e h = ap (find_name name) h.2 ∙ find-last name old h.0

pub found-code : (old : List (List ℕ)) (name : List ℕ) (i : ℕ) → find_name name old ≡ Some i → old ≡ with_code old name
found-code old name i e = sym (ap (λ b. cond b old (old ++ name ∷ [])) (there-among name old i e))
