-- Digits at the front, whoever reads them.
use Rattle.std.proofs.Common.{◌≡◌, ℕ, zero, suc, ◌+◌, ◌-◌, ◌*◌, ◌%◌, ◌^◌, ◌<◌, ◌≤◌, List, [], ◌∷◌, length, take, drop, true, false, ◌&&◌, nat_le, cond}
use Rattle.std.proofs.Common.{zero-mul, refl, ap, ◌∙◌, subst, arith}
use Rattle.std.specs.List.{list_all, prefix_len}
use Rattle.std.specs.Char.{digit_value}
use Rattle.std.specs.Str.Parse.{digits_value_after}
use Rattle.std.proofs.Math.Nat.{pow-suc, pow-le-pow_right}
use Rattle.std.proofs.lemmas.Bool.{and_parts, leb-true}
use Rattle.std.proofs.lemmas.List.{length-take}
use Rattle.std.proofs.lemmas.Str.{digit_value_digit}
use Rattle.std.proofs.lemmas.Grind.{common_steps}
use Rattle.ccsl_base.specs.Letters.{is_digit}
use Rattle.ccsl_base.specs.Decimal.{value_behind}
use Rattle.ccsl_vcd_lex.specs.Tokens.{is_white}
use Rattle.ccsl_vcd_lex.specs.Lexing.{is_dark}
use Rattle.ccsl_vcd_lex.specs.Digits.{AreDigits}

digits-all : (n : ℕ) (xs : List ℕ) → n ≡ prefix_len is_digit xs → list_all is_digit (take n xs) ≡ true
digits-all zero xs e = refl
digits-all (suc n) [] e = refl
digits-all (suc n) (x ∷ xs) e =
    (elim (is_digit x) as (λ b. is_digit x ≡ b → suc n ≡ cond b (1 + prefix_len is_digit xs) 0 → (is_digit x && list_all is_digit (take n xs)) ≡ true) [
      | true ↦ λ h g. rw h (digits-all n xs (omega (arith, g)))
      | false ↦ λ h g. absurd (omega (arith, g))
    ]) refl e

-- they write one value
digits-same : (n : ℕ) (ds : List ℕ) → list_all is_digit ds ≡ true → digits_value_after 10 n ds ≡ value_behind n ds
digits-same n [] h = refl
digits-same n (d ∷ ds) h =
    let p = and_parts (is_digit d) (list_all is_digit ds) h in
    let q = and_parts (nat_le 48 d) (nat_le d 57) p.0 in
    let value : digit_value d + 48 ≡ d = digit_value_digit d (leb-true 48 d q.0, leb-true d 57 q.1) in
    let step : n * 10 + digit_value d ≡ n * 10 + (d - 48) = omega (arith, value) in
    ap (λ v. digits_value_after 10 v ds) step ∙ digits-same (n * 10 + (d - 48)) ds p.1

-- so many digits have a value below that power of ten

more-digits : (n value digit : ℕ) → value < 10 ^ n → digit < 10 → value * 10 + digit < 10 ^ (n + 1)
more-digits n value digit l d =
    let k : n + 1 ≡ suc n = omega arith in
    let p = ap (λ m. 10 ^ m) k ∙ pow-suc 10 n in
    omega (arith, l, d, p)

few-digits : (n most value : ℕ) → value < 10 ^ n → n ≤ most → value < 10 ^ most
few-digits n most value l m =
    let some : zero < 10 = omega arith in
    let p = pow-le-pow_right {n = 10} some m in
    omega (arith, l, p)

digits-small : (n value : ℕ) (ds : List ℕ) → value < 10 ^ n → list_all is_digit ds ≡ true → value_behind value ds < 10 ^ (n + length ds)
digits-small n value [] l h = subst (λ (k : ℕ). value < 10 ^ k) (omega arith) l
digits-small n value (d ∷ ds) l h =
    let p = and_parts (is_digit d) (list_all is_digit ds) h in
    let q = and_parts (nat_le 48 d) (nat_le d 57) p.0 in
    let high : d ≤ 57 = leb-true d 57 q.1 in
    let more : value * 10 + (d - 48) < 10 ^ (n + 1) = more-digits n value (d - 48) l (omega (arith, high)) in
    subst (λ (k : ℕ). value_behind (value * 10 + (d - 48)) ds < 10 ^ k) (omega arith) (digits-small (n + 1) (value * 10 + (d - 48)) ds more p.1)

-- the value of digits that were read eight at a time
pub front-digits : (bytes : List ℕ) (n value : ℕ) → n ≡ 0 + prefix_len is_digit (drop 0 bytes) → n ≤ 19
    → value ≡ (0 * 10 ^ (n - 0) + digits_value_after 10 0 (take (n - 0) (drop 0 bytes))) % 2 ^ 64 → AreDigits (take n bytes) value
front-digits bytes n value run few read =
    let ds : List ℕ = take n bytes in
    let back : n - 0 ≡ n = omega arith in
    let all : list_all is_digit ds ≡ true = digits-all n bytes (omega (arith, run)) in
    let len : length ds ≤ 19 = omega (arith, length-take n bytes, few) in
    let small : value_behind 0 ds < 10 ^ 19 = few-digits (0 + length ds) 19 (value_behind 0 ds) (digits-small 0 0 ds (omega arith) all) (omega (arith, len)) in
    let none : 0 * 10 ^ (n - 0) ≡ 0 = zero-mul (10 ^ (n - 0)) in
    let same : digits_value_after 10 0 (take (n - 0) bytes) ≡ value_behind 0 ds =
    ap (λ (k : ℕ). digits_value_after 10 0 (take k bytes)) back ∙ digits-same 0 ds all in
    let amount : value ≡ value_behind 0 ds = omega (arith, read, none, same, small) in
    record { all = all; amount = amount; fits = omega (arith, amount, small) }

-- digits are not white

digit-dark : (b : ℕ) → is_digit b ≡ true → is_dark b ≡ true
unfolding is_white
digit-dark b h =
    let p = and_parts (nat_le 48 b) (nat_le b 57) h in
    let low : 48 ≤ b = leb-true 48 b p.0 in
    let high : b ≤ 57 = leb-true b 57 p.1 in
    grind (arith, common_steps, low, high)

pub digits-dark : (xs : List ℕ) → list_all is_digit xs ≡ true → list_all is_dark xs ≡ true
digits-dark [] h = refl
digits-dark (x ∷ xs) h =
    let q = and_parts (is_digit x) (list_all is_digit xs) h in
    rw (digit-dark x q.0) (digits-dark xs q.1)
