-- Each name of a chain is new behind those before it.
use Rattle.std.proofs.Common.{◌≡◌, ℕ, zero, suc, ◌+◌, ◌<◌, ◌≤◌, ◌^◌, List, [], ◌∷◌, ◌++◌, append_assoc, map, length, length-append, get_or, false, ◌||◌, Option}
use Rattle.std.proofs.Common.{Some, None, bytes_eq, refl, sym, ap, ap₂, ◌∙◌, arith}
use Rattle.std.specs.Prelude.{codes, decimal}
use Rattle.std.specs.List.{range_with_len}
use Rattle.std.proofs.lemmas.Bool.{false_from_ne_true}
use Rattle.std.proofs.lemmas.List.{append_cancel_left, append_cancel_right}
use Rattle.std.proofs.lemmas.List.Folds.{list_any-append}
use Rattle.std.proofs.lemmas.List.FromFn.{length-map-range_with_len, map-range_with_len_more}
use Rattle.std.proofs.lemmas.Slice.Eq.{bytes_eq-Decides}
use Rattle.std.proofs.lemmas.Fmt.{decimal_injective}
use Rattle.ccsl_base.specs.Names.{is_among}
use Rattle.ccsl_base.specs.Added.{IsAdded}
use Rattle.ccsl_chain.specs.Chain.{clock_name, call_path, hidden_name}
use Rattle.ccsl_accepts.proofs.Distinct.{other}

-- a text that f makes of none of the numbers is not among those that it makes
not_among : (f : ℕ → List ℕ) (x : List ℕ) (a k : ℕ) → ((j : ℕ) → a ≤ j → j < a + k → x ≡ f j → ⊥) → is_among x (map f (range_with_len a k)) ≡ false
not_among f x a zero h = refl
not_among f x a (suc k) h = ap₂ ◌||◌ (other x (f a) (h a (omega arith) (omega arith))) (not_among f x (a + 1) k (λ j l u. h j (omega arith) (omega arith)))

pub same_clock : (i j : ℕ) → i < 2 ^ 64 → j < 2 ^ 64 → clock_name i ≡ clock_name j → i ≡ j
same_clock i j l m e = decimal_injective i j l m (append_cancel_left (codes "c") (decimal i) (decimal j) e)

pub same_hidden : (i j : ℕ) → i + 1 < 2 ^ 64 → j + 1 < 2 ^ 64 → hidden_name i ≡ hidden_name j → i ≡ j
same_hidden i j l m e =
    let path = append_cancel_right (call_path i) (call_path j) (codes ".next") e in
    let place = decimal_injective (i + 1) (j + 1) l m (append_cancel_left (codes "alternates@") (decimal (i + 1)) (decimal (j + 1)) path) in
    omega arith

clock-new : (i : ℕ) → i < 2 ^ 64 → is_among (clock_name i) (map clock_name (range_with_len 0 i)) ≡ false
clock-new i l = not_among clock_name (clock_name i) 0 i (λ j a b e. let same = same_clock i j l (omega arith) e in omega arith)

hidden-new : (n i : ℕ) → i + 1 < 2 ^ 64 → is_among (hidden_name i) (map clock_name (range_with_len 0 n) ++ map hidden_name (range_with_len 0 i)) ≡ false
hidden-new n i l =
    list_any-append (bytes_eq (hidden_name i)) (map clock_name (range_with_len 0 n)) (map hidden_name (range_with_len 0 i))
    ∙ ap₂ ◌||◌
    (not_among clock_name (hidden_name i) 0 n (λ j a b e. let first : 97 ≡ 99 = ap (λ (xs : List ℕ). get_or xs 0 0) e in omega arith))
    (not_among hidden_name (hidden_name i) 0 i (λ j a b e. let same = same_hidden i j l (omega arith) e in omega arith))

-- the addition of a new name
added : (old new : List (List ℕ)) (name : List ℕ) (o : Option ℕ) → is_among name old ≡ false → IsAdded old new name o → new ≡ old ++ name ∷ []
added old new name None e h = let z : ⊥ = cc (e, h.0) in absurd z
added old new name (Some k) e h = h.2

-- one more clock, and one more hidden one
pub clock_added : (old new : List (List ℕ)) (name : List ℕ) (i : ℕ) (o : Option ℕ) → i < 2 ^ 64 → name ≡ clock_name i
    → old ≡ map clock_name (range_with_len 0 i) →
    IsAdded old new name o → new ≡ map clock_name (range_with_len 0 (i + 1))
clock_added old new name i o l is e h =
    added old new name o (ap₂ is_among is e ∙ clock-new i l) h
    ∙ ap₂ (λ (names : List (List ℕ)) (x : List ℕ). names ++ x ∷ []) e is
    ∙ sym (map-range_with_len_more clock_name 0 i i (omega arith))

pub hidden_added : (n : ℕ) (old new : List (List ℕ)) (name : List ℕ) (i : ℕ) (o : Option ℕ) → i + 1 < 2 ^ 64 → name ≡ hidden_name i →
    old ≡ map clock_name (range_with_len 0 n) ++ map hidden_name (range_with_len 0 i) → IsAdded old new name o →
    new ≡ map clock_name (range_with_len 0 n) ++ map hidden_name (range_with_len 0 (i + 1))
hidden_added n old new name i o l is e h =
    added old new name o (ap₂ is_among is e ∙ hidden-new n i l) h
    ∙ ap₂ (λ (names : List (List ℕ)) (x : List ℕ). names ++ x ∷ []) e is
    ∙ append_assoc (map clock_name (range_with_len 0 n)) (map hidden_name (range_with_len 0 i)) (hidden_name i ∷ [])
    ∙ ap (λ names. map clock_name (range_with_len 0 n) ++ names) (sym (map-range_with_len_more hidden_name 0 i i (omega arith)))

-- how many names there are so far
pub length-declared : (names : List (List ℕ)) (i : ℕ) → names ≡ map clock_name (range_with_len 0 i) → length names ≡ i
length-declared names i e = ap length e ∙ length-map-range_with_len clock_name 0 i

pub length-so_far : (names : List (List ℕ)) (n i : ℕ) → names ≡ map clock_name (range_with_len 0 n) ++ map hidden_name (range_with_len 0 i)
    → length names ≡ n + i
length-so_far names n i e =
    ap length e
    ∙ length-append (map clock_name (range_with_len 0 n)) (map hidden_name (range_with_len 0 i))
    ∙ ap₂ ◌+◌ (length-map-range_with_len clock_name 0 n) (length-map-range_with_len hidden_name 0 i)
