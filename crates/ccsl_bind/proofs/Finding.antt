-- The number of a code, as codes are added.
use Rattle.std.proofs.Common.{◌≡◌, ℕ, suc, ◌+◌, ◌≤◌, List, [], ◌∷◌, ◌++◌, length, Bool, true, false, not, nat_lt, cond, Option, Some, None, refl, sym, ap}
use Rattle.std.proofs.Common.{◌∙◌, arith, length-append}
use Rattle.std.specs.Prelude.{bytes_eq, fold}
use Rattle.std.specs.Option.{option_map}
use Rattle.std.specs.List.{position, position_or_len}
use Rattle.std.proofs.lemmas.Bool.{lt-ltb, or_parts}
use Rattle.std.proofs.lemmas.Grind.{fold-append}
use Rattle.ccsl_base.specs.Names.{is_among}
use Rattle.ccsl_base.proofs.Tables.{bytes_eq-refl}
use Rattle.ccsl_vcd.specs.Binding.{Declaration}
use Rattle.ccsl_bind.specs.Codes.{put_code, codes_of, number_of}
use Rattle.ccsl_bind.proofs.Codes.{among-found}
use Rattle.ccsl_base.proofs.Cases.{less-suc}

-- the first place, element by element
pub position-cons : {X : Type 0} (p : X → Bool) (x : X) (xs : List X) → position p (x ∷ xs) ≡ cond (p x) (Some 0) (option_map (λ i. suc i) (position p xs))
position-cons p x xs =
    let k : ℕ = position_or_len p xs in
    elim (p x) as (λ w. cond (nat_lt (cond (not w) (1 + k) 0) (suc (length xs))) (Some (cond (not w) (1 + k) 0)) None ≡ cond w (Some 0)
    (option_map (λ i. suc i) (cond (nat_lt k (length xs)) (Some k) None))) [
      | true ↦ ap (λ b. cond b (Some 0) None) (lt-ltb 0 (suc (length xs)) (omega arith))
      | false ↦
          ap (λ b. cond b (Some (1 + k)) None) (less-suc k (length xs))
          ∙ ap (λ n. cond (nat_lt k (length xs)) (Some n) None) (let e : 1 + k ≡ suc k = omega arith in e)
          ∙ elim (nat_lt k (length xs)) as (λ b. cond b (Some (suc k)) None ≡ option_map (λ i. suc i) (cond b (Some k) None)) [ true ↦ refl | false ↦ refl ]
    ]

pub position-grow : {X : Type 0} (p : X → Bool) (xs ys : List X) (i : ℕ) → position p xs ≡ Some i → position p (xs ++ ys) ≡ Some i
position-grow p [] ys i e = absurd (cc)
position-grow p (x ∷ xs) ys i e =
    position-cons p x (xs ++ ys)
    ∙ (elim (p x) as (λ w. cond w (Some 0) (option_map (λ j. suc j) (position p xs)) ≡ Some i
    → cond w (Some 0) (option_map (λ j. suc j) (position p (xs ++ ys))) ≡ Some i) [
      | true ↦ λ f. f
      | false ↦ λ f. later (position p xs) refl (λ j h. position-grow p xs ys j h) f
    ]) (sym (position-cons p x xs) ∙ e)
  where
    later : (o : Option ℕ) → position p xs ≡ o → ((j : ℕ) → position p xs ≡ Some j → position p (xs ++ ys) ≡ Some j)
        → option_map (λ j. suc j) (position p xs) ≡ Some i → option_map (λ j. suc j) (position p (xs ++ ys)) ≡ Some i
    later (Some j) h ih f = ap (option_map (λ k. suc k)) (ih j h) ∙ sym (ap (option_map (λ k. suc k)) h) ∙ f
    later None h ih f = absurd (let g : None ≡ Some i = sym (ap (option_map (λ k. suc k)) h) ∙ f in cc)

pub find-grow : (x : List ℕ) (t ys : List (List ℕ)) (i : ℕ) → number_of x t ≡ Some i → number_of x (t ++ ys) ≡ Some i
find-grow x t ys i e = position-grow (bytes_eq x) t ys i e

-- a code that is not there yet gets the next number
pub find-last : (x : List ℕ) (t : List (List ℕ)) → is_among x t ≡ false → number_of x (t ++ x ∷ []) ≡ Some (length t)
find-last x [] e = position-cons (bytes_eq x) x [] ∙ ap (λ w. cond w (Some 0) (option_map (λ j. suc j) (position (bytes_eq x) []))) (bytes_eq-refl x x refl)
find-last x (y ∷ t) e =
    let q = or_parts (bytes_eq x y) (is_among x t) e in
    position-cons (bytes_eq x) y (t ++ x ∷ []) ∙ ap (λ w. cond w (Some 0) (option_map (λ j. suc j) (position (bytes_eq x) (t ++ x ∷ [])))) q.0
    ∙ ap (option_map (λ j. suc j)) (find-last x t q.1)

pub put-there : (x : List ℕ) (t : List (List ℕ)) (n : ℕ) → number_of x t ≡ Some n → put_code t x ≡ t
put-there x t n e = ap (λ w. cond w t (t ++ x ∷ [])) (among-found x t ∙ ap Rattle.std.specs.Prelude.is_some e)

pub not-among : (x : List ℕ) (t : List (List ℕ)) → number_of x t ≡ None → is_among x t ≡ false
not-among x t e = among-found x t ∙ ap Rattle.std.specs.Prelude.is_some e

-- numbers stay as codes are added
pub put-grow : (x y : List ℕ) (t : List (List ℕ)) (i : ℕ) → number_of x t ≡ Some i → number_of x (put_code t y) ≡ Some i
put-grow x y t i e = elim (is_among y t) as (λ w. number_of x (cond w t (t ++ y ∷ [])) ≡ Some i) [ true ↦ e | false ↦ find-grow x t (y ∷ []) i e ]

pub codes-more : (ds : List Declaration) (d : Declaration) → codes_of (ds ++ d ∷ []) ≡ put_code (codes_of ds) d.code
unfolding codes_of
codes-more ds d = fold-append (λ t e. put_code t e.code) [] ds (d ∷ [])

put-length : (t : List (List ℕ)) (x : List ℕ) → length (put_code t x) ≤ length t + 1
put-length t x = elim (is_among x t) as (λ w. length (cond w t (t ++ x ∷ [])) ≤ length t + 1) [
  | true ↦ omega arith
  | false ↦ omega (arith, length-append t (x ∷ []))
]

few-from : (ds : List Declaration) (t : List (List ℕ)) → length (fold (λ u d. put_code u d.code) t ds) ≤ length t + length ds
few-from [] t = omega arith
few-from (d ∷ ds) t = let h : length (put_code t d.code) ≤ length t + 1 = put-length t d.code in let ih =
    few-from ds (put_code t d.code) in let e : length (d ∷ ds) ≡ length ds + 1 = omega arith in omega (arith, h, ih, e)

pub few-codes : (ds : List Declaration) → length (codes_of ds) ≤ length ds
unfolding codes_of
few-codes ds = let h : length (fold (λ u d. put_code u d.code) [] ds) ≤ 0 + length ds = few-from ds [] in let k : length (codes_of ds) ≤ length ds =
    omega (arith, h) in k
