-- A time that is taken where it lies.
use Rattle.std.specs.Prelude.{◌≡◌, ℕ, ◌<◌, ◌≤◌, List, length, take, get_or, true}
use Rattle.ccsl_vcd_lex.specs.Tokens.{is_white}
use Rattle.ccsl_vcd_lex.specs.Digits.{AreDigits}

-- so many digits of a value stand at the front of the bytes behind a #, and white space behind them
pub record IsTime (k value : ℕ) (bytes : List ℕ) : Type 0 where
  pub some : 0 < k
  pub few : k ≤ 19
  pub digits : AreDigits (take k bytes) value
  pub inside : k < length bytes
  pub white : is_white (get_or bytes k 0) ≡ true
