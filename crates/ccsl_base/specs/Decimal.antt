-- Numbers that decimal digits write: one or more digits, and leading zeros count for nothing.
use Rattle.std.specs.Prelude.{ℕ, ◌+◌, ◌-◌, ◌*◌, List, [], ◌∷◌, Bool, false, ◌&&◌, Option, Some, None, nat_le, if◌then◌else◌}
use Rattle.std.specs.List.{list_all}
use Rattle.ccsl_base.specs.Letters.{is_digit}

abbrev pub are_digits : List ℕ → Bool
are_digits [] = false
are_digits (d ∷ ds) = list_all is_digit (d ∷ ds)

-- the number that the digits of n write with others behind them
abbrev pub value_behind : ℕ → List ℕ → ℕ
value_behind n [] = n
value_behind n (d ∷ ds) = value_behind (n * 10 + (d - 48)) ds

-- the number that digits write, however great
abbrev pub decimal_value : List ℕ → ℕ
decimal_value ds = value_behind 0 ds

-- the number that a text writes, where it is all digits and the number is at most `most`
abbrev pub number_up_to : ℕ → List ℕ → Option ℕ
number_up_to most text = if are_digits text && nat_le (decimal_value text) most then Some (decimal_value text) else None
