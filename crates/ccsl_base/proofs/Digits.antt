-- The number that digits write, from the left.
use Rattle.std.proofs.Common.{◌≡◌, ℕ, ◌+◌, ◌*◌, ◌-◌, ◌<◌, ◌≤◌, List, [], ◌∷◌, true, false, cond, ◌&&◌, Option, Some, None, length, get_or, nat_le, refl}
use Rattle.std.proofs.Common.{ap, ap₂, ◌∙◌, ⊎_elim, arith}
use Rattle.std.specs.List.{list_all}
use Rattle.std.specs.Char.{digit_value}
use Rattle.std.specs.Str.Parse.{AllDigits, digits_value_after}
use Rattle.std.proofs.lemmas.Str.{digit_value_digit}
use Rattle.std.proofs.lemmas.Str.Parse.{digit_from_value}
use Rattle.ccsl_base.specs.Name.{is_visible}
use Rattle.std.proofs.lemmas.Bool.{cases_lt, le-leb, lt-leb, and_right}
use Rattle.ccsl_base.specs.Letters.{is_digit}
use Rattle.ccsl_base.specs.Decimal.{value_behind}

-- the number that digits write behind those of n, where it is at most a limit
abbrev pub number_behind : ℕ → ℕ → List ℕ → Option ℕ
number_behind most n ds = cond (list_all is_digit ds && nat_le (value_behind n ds) most) (Some (value_behind n ds)) None

pub number-digit : (most n d : ℕ) (ds : List ℕ) → is_digit d ≡ true → number_behind most n (d ∷ ds) ≡ number_behind most (n * 10 + (d - 48)) ds
number-digit most n d ds e =
    ap (λ b. cond (b && list_all is_digit ds && nat_le (value_behind n (d ∷ ds)) most) (Some (value_behind n (d ∷ ds))) None) e

grows : (n : ℕ) (ds : List ℕ) → n ≤ value_behind n ds
grows n [] = omega arith
grows n (d ∷ ds) = omega (arith, grows (n * 10 + (d - 48)) ds)

number-large : (most n : ℕ) (ds : List ℕ) → most < n → number_behind most n ds ≡ None
number-large most n ds l =
    ap (λ b. cond (list_all is_digit ds && b) (Some (value_behind n ds)) None) (lt-leb (value_behind n ds) most (omega (arith, grows n ds)))
    ∙ ap (λ b. cond b (Some (value_behind n ds)) None) (and_right (list_all is_digit ds) false refl)

number-end : (most n : ℕ) → n ≤ most → number_behind most n [] ≡ Some n
number-end most n l = ap (λ b. cond b (Some n) None) (le-leb n most l)

over-or-none : (v most : ℕ) → None ≡ cond (nat_le v most) (Some v) None → most < v
over-or-none v most e = ⊎_elim (λ l. l) (λ l. let some : None ≡ Some v = e ∙ ap (λ b. cond b (Some v) None) (le-leb v most l) in absurd (cc)) (cases_lt most v)

-- a digit that takes the number over the limit
pub number-over : (most n : ℕ) (ds : List ℕ) → 1 ≤ length ds → is_digit (get_or ds 0 0) ≡ true →
    None ≡ cond (nat_le (n * 10 + (get_or ds 0 0 - 48)) most) (Some (n * 10 + (get_or ds 0 0 - 48))) None → number_behind most n ds ≡ None
number-over most n [] l e f = absurd (omega arith)
number-over most n (d ∷ ds) l e f = number-digit most n d ds e ∙ number-large most (n * 10 + (d - 48)) ds (over-or-none (n * 10 + (d - 48)) most f)

-- the digits of a numeral are digits, and visible
pub are-digits : (ds : List ℕ) → AllDigits 10 ds → list_all is_digit ds ≡ true
are-digits [] h = refl
are-digits (d ∷ ds) h =
    let range = digit_from_value d h.0 in
    ap₂ (λ s t. s && t) (ap₂ (λ s t. s && t) (le-leb 48 d range.0) (le-leb d 57 range.1)) (are-digits ds h.1)

pub digits-visible : (ds : List ℕ) → AllDigits 10 ds → list_all is_visible ds ≡ true
digits-visible [] h = refl
digits-visible (d ∷ ds) h =
    let range = digit_from_value d h.0 in
    ap₂ (λ s t. s && t) (ap₂ (λ s t. s && t) (le-leb 33 d (omega (arith, range.0))) (le-leb d 126 (omega (arith, range.1)))) (digits-visible ds h.1)

-- the number that digits write, by the standard library's word and by this project's
pub value-same : (n : ℕ) (ds : List ℕ) → AllDigits 10 ds → value_behind n ds ≡ digits_value_after 10 n ds
value-same n [] h = refl
value-same n (d ∷ ds) h =
    let value : d - 48 ≡ digit_value d = omega (arith, digit_value_digit d (digit_from_value d h.0)) in
    ap (λ v. value_behind (n * 10 + v) ds) value ∙ value-same (n * 10 + digit_value d) ds h.1
