-- The letters of the values 0 and 1.
use Rattle.std.specs.Prelude.{ℕ, Bool, not, nat_eq, ◌||◌}

abbrev pub is_bit : ℕ → Bool
is_bit b = nat_eq b 48 || nat_eq b 49

abbrev pub is_other : ℕ → Bool
is_other b = not (is_bit b)
