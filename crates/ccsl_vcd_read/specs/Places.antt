-- Where short codes stand in a table.
use Rattle.std.specs.Prelude.{◌≡◌, ℕ, suc, List, Some, get_or}
use Rattle.ccsl_bind.specs.Codes.{number_of}
use Rattle.ccsl_vcd_lex.specs.ShortCodes.{place_of}

-- A place has one more than the number of its code, or 0.
abbrev pub AreFound : List ℕ → List (List ℕ) → Type 0
AreFound table codes = (text : List ℕ) (n : ℕ) → get_or table (place_of text) 0 ≡ suc n → number_of text codes ≡ Some n
