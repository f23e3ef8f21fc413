-- The values that a file of events writes: letters, the first on the left. A number has those of its bits without zeros in front.
use Rattle.std.specs.Prelude.{ℕ, zero, suc, ◌-◌, ◌/◌, ◌%◌, ◌^◌, List, [], ◌∷◌, drop, Bool, false, Option, Some, None, nat_le, ◌==◌, ◌&&◌, ◌||◌, if◌then◌else◌}
use Rattle.std.specs.Prelude.{map, bit_or, option_map}
use Rattle.std.specs.List.{list_all, flat_map}
use Rattle.ccsl_base.specs.Letters.{is_digit}
use Rattle.ccsl_base.specs.Decimal.{number_up_to}
use Rattle.ccsl_event_file.specs.Tokens.{Token, word, letters}

-- the letter of a number's last bit
abbrev pub bit : ℕ → ℕ
bit n = if n % 2 == 1 then 49 else 48

-- the letters of so many bits of a number
unfoldable pub bits : ℕ → ℕ → List ℕ
bits zero n = []
bits (suc k) n = bit (n / 2 ^ k) ∷ bits k n

abbrev pub without_zeros : List ℕ → List ℕ
without_zeros [] = []
without_zeros (b ∷ bs) = if b == 48 then without_zeros bs else b ∷ bs

-- at least one letter
abbrev pub or_zero : List ℕ → List ℕ
or_zero [] = 48 ∷ []
or_zero (b ∷ bs) = b ∷ bs

abbrev pub trimmed : List ℕ → List ℕ
trimmed bs = or_zero (without_zeros bs)

-- digits of base 16
abbrev pub is_hex : ℕ → Bool
is_hex d = is_digit d || ((nat_le 97 d && nat_le d 102) || (nat_le 65 d && nat_le d 70))

abbrev pub hex_value : ℕ → ℕ
hex_value d = if is_digit d then d - 48 else (if nat_le 97 d then d - 87 else d - 55)

abbrev pub hex_bits : ℕ → List ℕ
hex_bits d = bits 4 (hex_value d)

-- of digits of base 16, and of a decimal number below 2^64
abbrev pub of_hex : List ℕ → Option (List ℕ)
of_hex digits = if list_all is_hex digits then Some (trimmed (flat_map hex_bits digits)) else None

abbrev pub of_decimal : List ℕ → Option (List ℕ)
of_decimal digits = option_map (λ n. trimmed (bits 64 n)) (number_up_to 18446744073709551615 digits)

-- what stands behind 0x
abbrev pub of_digits : List ℕ → Option (List ℕ)
of_digits [] = None
of_digits (d ∷ ds) = of_hex (d ∷ ds)

abbrev pub has_base : List ℕ → Bool
has_base (a ∷ b ∷ bs) = a == 48 && b == 120
has_base _ = false

abbrev pub of_word : List ℕ → Option (List ℕ)
of_word text = if has_base text then of_digits (drop 2 text) else of_decimal text

-- a letter in lower case
abbrev pub lower : ℕ → ℕ
lower b = bit_or b 32

abbrev pub of_letters : List ℕ → Option (List ℕ)
of_letters [] = None
of_letters (b ∷ bs) = Some (map lower (b ∷ bs))

-- the letters of the value that a token is
abbrev pub value_of : Token → Option (List ℕ)
value_of (word text) = of_word text
value_of (letters text) = of_letters text
value_of _ = None
