-- Files under names: what is found after one of them was changed or added.
use Rattle.std.proofs.Common.{◌≡◌, ◌≢◌, ℕ, ◌≤◌, zero, suc, Bool, true, false, cond, List, [], ◌∷◌, ◌++◌, length, get_or, set, Some, None, refl, sym, ap, ◌∙◌}
use Rattle.std.proofs.Common.{nat_lt, arith}
use Rattle.std.specs.List.{find, position, position_or_len}
use Rattle.std.specs.Option.{option_map}
use Rattle.std.specs.Str.{bytes_eq}
use Rattle.std.proofs.lemmas.Bool.{false_from_ne_true, ltb-false}
use Rattle.std.proofs.lemmas.List.Folds.{find-set, find_at}
use Rattle.std.proofs.lemmas.List.Quantifiers.{position-Some}
use Rattle.std.proofs.lemmas.List.Sums.{position_or_len_is}
use Rattle.std.proofs.lemmas.Option.{slice_get_past}
use Rattle.std.proofs.lemmas.Slice.Eq.{bytes_eq-Decides}
use Rattle.ccsl_edge.specs.Stored.{Stores}
use Rattle.ccsl_base.proofs.Tables.{own-name}

-- whether a file has this name
abbrev is_named : List ℕ → List ℕ × List ℕ → Bool
is_named name file = bytes_eq file.0 name

other_name : (name other : List ℕ) → other ≢ name → bytes_eq name other ≡ false
other_name name other apart = false_from_ne_true _ (λ same. apart (sym ((bytes_eq-Decides name other).0 same)))

-- an element that passes neither before nor after its change is not found
find-set_other : {X : Type 0} (p : X → Bool) (xs : List X) (i : ℕ) (y d : X)
    → p (get_or xs i d) ≡ false → p y ≡ false → find p (set xs i y) ≡ find p xs
find-set_other p [] i y d was now = refl
find-set_other p (x ∷ xs) zero y d was now = rw (was, now) refl
find-set_other p (x ∷ xs) (suc i) y d was now = ap (cond (p x) (Some x)) (find-set_other p xs i y d was now)

find_push_other : {X : Type 0} (p : X → Bool) (xs : List X) (y : X) → p y ≡ false → find p (xs ++ y ∷ []) ≡ find p xs
find_push_other p [] y fails = rw fails refl
find_push_other p (x ∷ xs) y fails = ap (cond (p x) (Some x)) (find_push_other p xs y fails)

find_push_first : {X : Type 0} (p : X → Bool) (xs : List X) (y : X)
    → find p xs ≡ None → p y ≡ true → find p (xs ++ y ∷ []) ≡ Some y
find_push_first p [] y none passes = rw passes refl
find_push_first p (x ∷ xs) y none passes =
    (elim (p x) as (λ b. cond b (Some x) (find p xs) ≡ None → cond b (Some x) (find p (xs ++ y ∷ [])) ≡ Some y)
    [ true ↦ λ found. cc | false ↦ λ h. find_push_first p xs y h passes ]) none

pub position-None : {X : Type 0} (p : X → Bool) (xs : List X) → position p xs ≡ None → find p xs ≡ None
position-None p xs none =
    find_at p xs
    ∙ slice_get_past xs (position_or_len p xs)
    ((elim (nat_lt (position_or_len p xs) (length xs))
    as (λ b. nat_lt (position_or_len p xs) (length xs) ≡ b
    → cond b (Some (position_or_len p xs)) None ≡ None → length xs ≤ position_or_len p xs)
    [ true ↦ λ _ found. absurd (cc) | false ↦ λ past _. ltb-false _ _ past ]) refl none)

-- the first file of a name takes a new content
pub Stores-set : (files : List (List ℕ × List ℕ)) (name content : List ℕ) (i : ℕ) (d : List ℕ × List ℕ)
    → position (is_named name) files ≡ Some i → Stores name content files (set files i ((get_or files i d).0, content))
Stores-set files name content i d at =
    let first = position-Some (is_named name) files i d at in
    let named : (get_or files i d).0 ≡ name = (bytes_eq-Decides _ _).0 first.1 in
    let place : position_or_len (is_named name) files ≡ i =
    position_or_len_is (is_named name) files i d (omega (arith, first.0)) first.2 (λ _. first.1) in
    record {
      file = ap (option_map (λ (f : List ℕ × List ℕ). f.1)) (find-set (is_named name) files i _ (sym place) first.0 first.1);
      others = λ other apart.
          let fails : bytes_eq (get_or files i d).0 other ≡ false = rw named (other_name name other apart) in
          ap (option_map (λ (f : List ℕ × List ℕ). f.1)) (find-set_other (is_named other) files i _ d fails fails);
    }

-- a file of a new name is added
pub Stores-push : (files : List (List ℕ × List ℕ)) (name content : List ℕ)
    → position (is_named name) files ≡ None → Stores name content files (files ++ (name, content) ∷ [])
Stores-push files name content none = record {
  file =
      ap (option_map (λ (f : List ℕ × List ℕ). f.1))
      (find_push_first (is_named name) files (name, content) (position-None (is_named name) files none) (own-name name));
  others = λ other apart.
      ap (option_map (λ (f : List ℕ × List ℕ). f.1))
      (find_push_other (is_named other) files (name, content) (other_name name other apart));
}
