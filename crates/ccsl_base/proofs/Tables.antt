-- Tables of names.
use Rattle.std.proofs.Common.{◌≡◌, ℕ, zero, suc, ◌+◌, ◌<◌, List, [], ◌∷◌, ◌++◌, length, map, Bool, true, false, not, cond, nat_lt, ◌||◌, ◌&&◌, Some, None, refl}
use Rattle.std.proofs.Common.{sym, ap, ◌∙◌, arith, get_or}
use Rattle.std.specs.List.{list_any, position, position_or_len, slice_get}
use Rattle.std.specs.Str.{bytes_eq}
use Rattle.std.proofs.lemmas.Bool.{false_from_ne_true, true≢false, or_parts, or_right, and_parts, not-true, lt-ltb}
use Rattle.std.proofs.lemmas.List.{length-map, map-append}
use Rattle.indexmap.specs.IndexSet.{insert_key}
use Rattle.std.proofs.lemmas.List.Folds.{list_any-append}
use Rattle.std.proofs.lemmas.List.Quantifiers.{position-Some}
use Rattle.std.proofs.lemmas.Option.{slice_get-get_or, slice_get_within}
use Rattle.std.proofs.lemmas.Slice.Eq.{bytes_eq-Decides}
use Rattle.ccsl_base.specs.Names.{is_among, find_name, are_distinct}
use Rattle.ccsl_base.proofs.Cases.{less-suc}
use Rattle.ccsl_base.proofs.Sets.{by_case}

pub list_any-map : {X Y : Type 0} (f : X → Y) (p : Y → Bool) (xs : List X) → list_any p (map f xs) ≡ list_any (λ x. p (f x)) xs
list_any-map f p [] = refl
list_any-map f p (x ∷ xs) = ap (λ t. p (f x) || t) (list_any-map f p xs)

position_or_len-map : {X Y : Type 0} (f : X → Y) (p : Y → Bool) (xs : List X) → position_or_len p (map f xs) ≡ position_or_len (λ x. p (f x)) xs
position_or_len-map f p [] = refl
position_or_len-map f p (x ∷ xs) = ap (λ n. cond (not (p (f x))) (1 + n) 0) (position_or_len-map f p xs)

pub position-map : {X Y : Type 0} (f : X → Y) (p : Y → Bool) (xs : List X) → position p (map f xs) ≡ position (λ x. p (f x)) xs
position-map f p xs = rw (position_or_len-map f p xs, length-map xs f) refl

pub bytes_eq-true : (xs ys : List ℕ) → bytes_eq xs ys ≡ true → xs ≡ ys
bytes_eq-true xs ys e = (bytes_eq-Decides xs ys).0 e

pub bytes_eq-refl : (xs ys : List ℕ) → xs ≡ ys → bytes_eq xs ys ≡ true
bytes_eq-refl xs ys e = (bytes_eq-Decides xs ys).1 e

pub bytes_eq-sym : (xs ys : List ℕ) → bytes_eq xs ys ≡ false → bytes_eq ys xs ≡ false
bytes_eq-sym xs ys e = false_from_ne_true (bytes_eq ys xs) (λ t. true≢false (sym (bytes_eq-refl xs ys (sym (bytes_eq-true ys xs t))) ∙ e))

-- what is found stands at its place
pub find_name-there : (name : List ℕ) (names : List (List ℕ)) (i : ℕ) → find_name name names ≡ Some i → slice_get names i ≡ Some name
find_name-there name names i e =
    let h = position-Some (bytes_eq name) names i [] e in
    slice_get-get_or names i [] h.0 ∙ ap (λ x. Some x) (sym (bytes_eq-true name (get_or names i []) h.1))

-- distinct names and one that is not among them are distinct
pub distinct-snoc : (names : List (List ℕ)) (name : List ℕ) → are_distinct names ≡ true → is_among name names ≡ false → are_distinct (names ++ name ∷ []) ≡ true
distinct-snoc [] name d n = refl
distinct-snoc (x ∷ xs) name d n =
    let parts = and_parts (not (is_among x xs)) (are_distinct xs) d in
    let away = or_parts (bytes_eq name x) (is_among name xs) n in
    let fresh : is_among x (xs ++ name ∷ []) ≡ false =
    list_any-append (bytes_eq x) xs (name ∷ []) ∙ rw (not-true (is_among x xs) parts.0, bytes_eq-sym name x away.0) refl in
    rw fresh (distinct-snoc xs name parts.1 away.1)

-- what a table of texts holds after one that was not there was inserted
pub inserted : {K : Type 0} (eq : K → K → Bool) (text : K → List ℕ) (keys new : List K) (key : K) (name : List ℕ) →
    new ≡ insert_key eq keys key → list_any (eq key) keys ≡ false → text key ≡ name → map text new ≡ map text keys ++ name ∷ []
inserted eq text keys new key name e fresh is =
    ap (map text) (e ∙ rw fresh refl) ∙ map-append text keys (key ∷ []) ∙ ap (λ t. map text keys ++ t ∷ []) is

-- a name that stands at a place is among them
pub there-among : (names : List (List ℕ)) (i : ℕ) (name : List ℕ) → slice_get names i ≡ Some name → is_among name names ≡ true
there-among [] i name e = absurd (cc)
there-among (n ∷ ns) zero name e = let same : n ≡ name = cc in ap (λ t. t || is_among name ns) (bytes_eq-refl name n (sym same))
there-among (n ∷ ns) (suc i) name e = or_right (bytes_eq name n) (is_among name ns) (there-among ns i name e)

-- and is found there, where no name stands twice
pub place-own : (names : List (List ℕ)) (i : ℕ) (name : List ℕ) → are_distinct names ≡ true → slice_get names i ≡ Some name
    → position_or_len (bytes_eq name) names ≡ i
place-own [] i name d e = absurd (cc)
place-own (n ∷ ns) zero name d e =
    let same : n ≡ name = cc in
    ap (λ b. cond (not b) (1 + position_or_len (bytes_eq name) ns) 0) (bytes_eq-refl name n (sym same))
place-own (n ∷ ns) (suc i) name d e =
    let apart = and_parts (not (is_among n ns)) (are_distinct ns) d in
    by_case (bytes_eq name n) _
    (λ same.
    let fresh : is_among n ns ≡ false = not-true (is_among n ns) apart.0 in
    let among : is_among n ns ≡ true = ap (λ w. is_among w ns) (sym (bytes_eq-true name n same)) ∙ there-among ns i name e in
    absurd (cc))
    (λ other.
    let later : position_or_len (bytes_eq name) ns ≡ i = place-own ns i name apart.1 e in
    ap (λ b. cond (not b) (1 + position_or_len (bytes_eq name) ns) 0) other ∙ omega arith)

pub find-own : (names : List (List ℕ)) (i : ℕ) (name : List ℕ) → are_distinct names ≡ true → slice_get names i ≡ Some name
    → find_name name names ≡ Some i
find-own names i name d e =
    ap (λ k. cond (nat_lt k (length names)) (Some k) None) (place-own names i name d e)
    ∙ ap (λ b. cond b (Some i) None) (lt-ltb i (length names) (slice_get_within names i name e))

pub found-within : (name : List ℕ) (names : List (List ℕ)) (i : ℕ) → find_name name names ≡ Some i → i < length names
found-within name names i e = slice_get_within names i name (find_name-there name names i e)

pub any-within : {X : Type 0} (p : X → Bool) (xs : List X) → list_any p xs ≡ nat_lt (position_or_len p xs) (length xs)
any-within p [] = refl
any-within p (x ∷ xs) =
    elim (p x) as (λ w. (w || list_any p xs) ≡ nat_lt (cond (not w) (1 + position_or_len p xs) 0) (suc (length xs))) [
      | true ↦ sym (lt-ltb 0 (suc (length xs)) (omega arith))
      | false ↦ any-within p xs ∙ sym (less-suc (position_or_len p xs) (length xs))
    ]

pub own-name : (name : List ℕ) → bytes_eq name name ≡ true
own-name name = bytes_eq-refl name name refl

pub bytes_eq-comm : (xs ys : List ℕ) → bytes_eq xs ys ≡ bytes_eq ys xs
bytes_eq-comm xs ys =
    by_case (bytes_eq xs ys) _
    (λ same. same ∙ sym (bytes_eq-refl ys xs (sym (bytes_eq-true xs ys same))))
    (λ other. other ∙ sym (bytes_eq-sym xs ys other))
