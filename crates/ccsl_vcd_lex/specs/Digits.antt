-- Decimal digits at the front of some bytes.
use Rattle.std.specs.Prelude.{◌≡◌, ℕ, ◌^◌, ◌<◌, List, true}
use Rattle.std.specs.List.{list_all}
use Rattle.ccsl_base.specs.Letters.{is_digit}
use Rattle.ccsl_base.specs.Decimal.{value_behind}

-- decimal digits of a value, at most 19 of them
pub record AreDigits (text : List ℕ) (value : ℕ) : Type 0 where
  pub all : list_all is_digit text ≡ true
  pub amount : value ≡ value_behind 0 text
  pub fits : value < 10 ^ 19
