-- Letters that are written one behind another.
use Rattle.std.proofs.Common.{◌≡◌, ◌<◌, ◌≤◌, ◌&&◌, Some, None, add-one, ◌+◌, ◌-◌, ◌/◌, ◌^◌, ℕ, suc, List, [], ◌∷◌, ◌++◌, length, get_or, drop, Bool, true}
use Rattle.std.proofs.Common.{false, cond, ◌==◌, refl, sym, ap, ◌∙◌, append_assoc, arith}
use Rattle.std.specs.List.{list_all, flat_map}
use Rattle.std.proofs.Math.Seq.{drop-cons}
use Rattle.ccsl_event_file.specs.Values.{bit, bits, without_zeros, is_hex, hex_value, hex_bits}
use Rattle.ccsl_event_file.specs.Letters.{extended, hex_digit}

pub extended-one : (ls : List ℕ) (b : ℕ) (bs : List ℕ) → extended (extended ls (b ∷ [])) bs ≡ extended ls (b ∷ bs)
extended-one [] b bs =
    elim (b == 48) as (λ v. extended (cond v [] (b ∷ [])) bs ≡ cond v (without_zeros bs) (b ∷ bs)) [ true ↦ refl | false ↦ refl ]
extended-one (a ∷ front) b bs = append_assoc (a ∷ front) (b ∷ []) bs

append-nil : (xs : List ℕ) → xs ++ [] ≡ xs
append-nil [] = refl
append-nil (x ∷ xs) = ap (λ ys. x ∷ ys) (append-nil xs)

extended-none : (ls ys : List ℕ) → extended (extended ls []) ys ≡ extended ls ys
extended-none [] ys = refl
extended-none (a ∷ front) ys = ap (λ xs. extended xs ys) (append-nil (a ∷ front))

pub extended-nil : (ls : List ℕ) → extended ls [] ≡ ls
extended-nil [] = refl
extended-nil (a ∷ front) = append-nil (a ∷ front)

pub extended-append : (ls xs ys : List ℕ) → extended (extended ls xs) ys ≡ extended ls (xs ++ ys)
extended-append ls [] ys = extended-none ls ys
extended-append ls (x ∷ xs) ys =
    ap (λ zs. extended zs ys) (sym (extended-one ls x xs)) ∙ extended-append (extended ls (x ∷ [])) xs ys ∙ extended-one ls x (xs ++ ys)

pub bits-more : (c i n : ℕ) → i < c → bits (c - i) n ≡ bit (n / 2 ^ (c - 1 - i)) ∷ bits (c - (i + 1)) n
unfolding bits
bits-more c i n h =
    let more : c - i ≡ suc (c - (i + 1)) = omega arith in
    let top : c - (i + 1) ≡ c - 1 - i = omega arith in
    ap (λ k. bits k n) more ∙ ap (λ k. bit (n / 2 ^ k) ∷ bits (c - (i + 1)) n) top

-- one more bit of a number
pub put : (c i n : ℕ) (ls new : List ℕ) → i < c → new ≡ extended ls (bit (n / 2 ^ (c - 1 - i)) ∷ [])
    → extended new (bits (c - (i + 1)) n) ≡ extended ls (bits (c - i) n)
put c i n ls new h e =
    ap (λ xs. extended xs (bits (c - (i + 1)) n)) e ∙ extended-one ls _ _ ∙ ap (extended ls) (sym (bits-more c i n h))

-- the digits behind one
pub digits-more : (i : ℕ) (digits : List ℕ) → i < length digits
    → flat_map hex_bits (drop i digits) ≡ hex_bits (get_or digits i 0) ++ flat_map hex_bits (drop (i + 1) digits)
digits-more i digits h =
    ap (flat_map hex_bits) (drop-cons digits i 0 h) ∙ ap (λ n. hex_bits (get_or digits i 0) ++ flat_map hex_bits (drop n digits)) (sym (add-one i))

pub put_digit : (i : ℕ) (digits ls new : List ℕ) → i < length digits → new ≡ extended ls (hex_bits (get_or digits i 0))
    → extended new (flat_map hex_bits (drop (i + 1) digits)) ≡ extended ls (flat_map hex_bits (drop i digits))
put_digit i digits ls new h e =
    ap (λ xs. extended xs (flat_map hex_bits (drop (i + 1) digits))) e ∙ extended-append ls _ _ ∙ ap (extended ls) (sym (digits-more i digits h))

pub all-more : (i : ℕ) (digits : List ℕ) → i < length digits → is_hex (get_or digits i 0) ≡ true
    → list_all is_hex (drop (i + 1) digits) ≡ list_all is_hex (drop i digits)
all-more i digits h e =
    ap (λ n. list_all is_hex (drop n digits)) (add-one i) ∙ ap (λ b. b && list_all is_hex (drop (suc i) digits)) (sym e)
    ∙ sym (ap (list_all is_hex) (drop-cons digits i 0 h))

some_if : (b : Bool) (d v : ℕ) → Some v ≡ cond b (Some (hex_value d)) None → (b ≡ true) × (v ≡ hex_value d)
some_if true d v e = (refl, cc)
some_if false d v e = absurd (cc)

pub hex-some : (d v : ℕ) → Some v ≡ hex_digit d → (is_hex d ≡ true) × (v ≡ hex_value d)
hex-some d v e = some_if (is_hex d) d v e

none_if : (b : Bool) (d : ℕ) → None ≡ cond b (Some (hex_value d)) None → b ≡ false
none_if true d e = absurd (cc)
none_if false d e = refl

pub hex-none : (d : ℕ) → None ≡ hex_digit d → is_hex d ≡ false
hex-none d e = none_if (is_hex d) d e

pub extended-end : (c i n : ℕ) (ls : List ℕ) → c ≤ i → extended ls (bits (c - i) n) ≡ ls
unfolding bits
extended-end c i n ls h =
    let over : c - i ≡ 0 = omega arith in
    ap (λ k. extended ls (bits k n)) over ∙ extended-nil ls
