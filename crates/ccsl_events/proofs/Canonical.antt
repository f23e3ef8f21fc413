-- Digits without a zero in front are those of their value.
use Rattle.std.proofs.Common.{◌≡◌, ℕ, zero, suc, ◌+◌, ◌<◌, ◌≤◌, List, [], ◌∷◌, length, take, get_or, true, nat_le, decimal, refl, sym, ap, ◌∙◌, arith}
use Rattle.std.proofs.Common.{length-take-le}
use Rattle.std.specs.List.{list_all}
use Rattle.std.specs.Char.{digit_value}
use Rattle.std.specs.Str.Parse.{AllDigits}
use Rattle.std.proofs.lemmas.Bool.{and_parts, leb-true}
use Rattle.std.proofs.lemmas.Str.{digit_value_digit}
use Rattle.std.proofs.lemmas.Str.Parse.{IsNumeralModel}
use Rattle.std.proofs.lemmas.Fmt.{decimal-digits_value}
use Rattle.ccsl_base.specs.Letters.{is_digit}
use Rattle.ccsl_base.specs.Decimal.{value_behind}
use Rattle.ccsl_base.proofs.Digits.{are-digits, value-same}
use Rattle.ccsl_events.specs.Times.{IsTime}

all-digits : (ds : List ℕ) → list_all is_digit ds ≡ true → AllDigits 10 ds
all-digits [] h = tt
all-digits (d ∷ ds) h =
    let p = and_parts (is_digit d) (list_all is_digit ds) h in
    let q = and_parts (nat_le 48 d) (nat_le d 57) p.0 in
    let high : d ≤ 57 = leb-true d 57 q.1 in
    let value : digit_value d + 48 ≡ d = digit_value_digit d (leb-true 48 d q.0, high) in
    (omega (arith, value, high), all-digits ds p.1)

own : IsNumeralModel (λ ds. list_all is_digit ds ≡ true) (value_behind 0)
own = record { to = all-digits; from = are-digits; same = value-same 0 }

first : (k : ℕ) (xs : List ℕ) → 0 < k → get_or (take k xs) 0 0 ≡ get_or xs 0 0
first zero xs h = absurd (omega arith)
first (suc k) [] h = refl
first (suc k) (x ∷ xs) h = refl

pub decimal-front : (k value : ℕ) (bytes : List ℕ) → IsTime k value bytes → (get_or bytes 0 0 ≡ 48 → k ≡ 1) → decimal value ≡ take k bytes
decimal-front k value bytes t canonical =
    let ds : List ℕ = take k bytes in
    let len : length ds ≡ k = length-take-le k bytes (omega (arith, t.inside)) in
    ap decimal t.digits.amount
    ∙ decimal-digits_value own ds t.digits.all (omega (arith, len, t.some)) (λ e. len ∙ canonical (sym (first k bytes t.some) ∙ e))
    (omega (arith, t.digits.amount, t.digits.fits))
