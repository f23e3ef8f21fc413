-- Which declared clock a name names.
use Rattle.std.proofs.Common.{◌≡◌, ℕ, zero, suc, ◌+◌, ◌<◌, ◌≤◌, List, [], ◌∷◌, length, take, Bool, true, false, not, ◌||◌, cond, Option, Some, None, nat_lt}
use Rattle.std.proofs.Common.{if◌then◌else◌, refl, sym, ap, ◌∙◌, ⊎_elim, arith, lt-ltb, le-ltb}
use Rattle.std.specs.List.{position, position_or_len, list_any}
use Rattle.std.specs.Option.{option_map, is_some}
use Rattle.std.specs.Str.{bytes_eq}
use Rattle.std.proofs.lemmas.Bool.{cases_lt}
use Rattle.std.proofs.lemmas.Option.{same_Some}
use Rattle.ccsl_base.specs.Names.{is_among, find_name}
use Rattle.ccsl_base.proofs.Tables.{find_name-there}
use Rattle.ccsl_base.proofs.Sets.{by_case}

module _ {X : Type 0} (p : X → Bool) where
  position-yes : (x : X) (xs : List X) → p x ≡ true → position p (x ∷ xs) ≡ Some 0
  position-yes x xs e =
      let first : position_or_len p (x ∷ xs) ≡ 0 = ap (λ b. cond (not b) (1 + position_or_len p xs) 0) e in
      ap (λ k. cond (nat_lt k (length (x ∷ xs))) (Some k) None) first
      ∙ ap (λ b. cond b (Some 0) None) (lt-ltb 0 (length (x ∷ xs)) (omega arith))

  position-no : (x : X) (xs : List X) → p x ≡ false → position p (x ∷ xs) ≡ option_map suc (position p xs)
  position-no x xs e =
      let k = position_or_len p xs in
      let later : position_or_len p (x ∷ xs) ≡ suc k = ap (λ b. cond (not b) (1 + k) 0) e ∙ (let s : 1 + k ≡ suc k = omega arith in s) in
      ap (λ i. cond (nat_lt i (length (x ∷ xs))) (Some i) None) later
      ∙ ⊎_elim
      (λ (l : k < length xs).
      ap (λ b. cond b (Some (suc k)) None) (lt-ltb (suc k) (length (x ∷ xs)) (omega arith))
      ∙ sym (ap (λ b. option_map suc (cond b (Some k) None)) (lt-ltb k (length xs) l)))
      (λ (l : length xs ≤ k).
      ap (λ b. cond b (Some (suc k)) None) (le-ltb (suc k) (length (x ∷ xs)) (omega arith))
      ∙ sym (ap (λ b. option_map suc (cond b (Some k) None)) (le-ltb k (length xs) l)))
      (cases_lt k (length xs))

  -- there is a place where some element passes
  pub some-place : (xs : List X) → is_some (position p xs) ≡ list_any p xs
  some-place [] = refl
  some-place (x ∷ xs) =
      by_case (p x) _
      (λ e. ap is_some (position-yes x xs e) ∙ sym (ap (λ b. b || list_any p xs) e))
      (λ e. ap is_some (position-no x xs e) ∙ mapped (position p xs) ∙ some-place xs ∙ sym (ap (λ b. b || list_any p xs) e))
    where
      mapped : (o : Option ℕ) → is_some (option_map suc o) ≡ is_some o
      mapped None = refl
      mapped (Some i) = refl

-- a number below a bound
abbrev pub if_below : ℕ → Option ℕ → Option ℕ
if_below n None = None
if_below n (Some i) = if nat_lt i n then Some i else None

if_below-none : (o : Option ℕ) → None ≡ if_below 0 o
if_below-none None = refl
if_below-none (Some i) = sym (ap (λ b. cond b (Some i) None) (le-ltb i 0 (omega arith)))

if_below-suc : (n : ℕ) (o : Option ℕ) → option_map suc (if_below n o) ≡ if_below (suc n) (option_map suc o)
if_below-suc n None = refl
if_below-suc n (Some i) =
    ⊎_elim
    (λ (l : i < n). ap (λ b. option_map suc (cond b (Some i) None)) (lt-ltb i n l)
    ∙ sym (ap (λ b. cond b (Some (suc i)) None) (lt-ltb (suc i) (suc n) (omega arith))))
    (λ (l : n ≤ i). ap (λ b. option_map suc (cond b (Some i) None)) (le-ltb i n l)
    ∙ sym (ap (λ b. cond b (Some (suc i)) None) (le-ltb (suc i) (suc n) (omega arith))))
    (cases_lt i n)

-- the place among the first n
pub position-take : {X : Type 0} (p : X → Bool) (n : ℕ) (xs : List X) → position p (take n xs) ≡ if_below n (position p xs)
position-take p zero xs = if_below-none (position p xs)
position-take p (suc n) [] = refl
position-take p (suc n) (x ∷ xs) =
    by_case (p x) _
    (λ e. position-yes p x (take n xs) e
    ∙ sym (ap (if_below (suc n)) (position-yes p x xs e) ∙ ap (λ b. cond b (Some 0) None) (lt-ltb 0 (suc n) (omega arith))))
    (λ e.
    position-no p x (take n xs) e
    ∙ ap (option_map suc) (position-take p n xs)
    ∙ if_below-suc n (position p xs)
    ∙ sym (ap (if_below (suc n)) (position-no p x xs e)))

-- a found name is there, and a name that is there is found
pub found-among : (name : List ℕ) (names : List (List ℕ)) → is_some (find_name name names) ≡ is_among name names
found-among name names = some-place (bytes_eq name) names

-- two names with one number are one
pub found-one : (name other : List ℕ) (names : List (List ℕ)) (i : ℕ) → find_name name names ≡ Some i → find_name other names ≡ Some i → name ≡ other
found-one name other names i e f = same_Some name other (sym (find_name-there name names i e) ∙ find_name-there other names i f)
