-- What the code makes of letters.
use Rattle.std.specs.Prelude.{ℕ, List, [], ◌∷◌, ◌++◌, Option, Some, None, if◌then◌else◌}
use Rattle.ccsl_event_file.specs.Values.{without_zeros, is_hex, hex_value}

abbrev pub hex_digit : ℕ → Option ℕ
hex_digit d = if is_hex d then Some (hex_value d) else None

-- letters with others behind them, of which the zeros at the front are left out
abbrev pub extended : List ℕ → List ℕ → List ℕ
extended [] bs = without_zeros bs
extended (a ∷ front) bs = (a ∷ front) ++ bs
