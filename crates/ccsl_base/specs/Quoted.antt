-- What a text between quotes is made of.
use Rattle.std.specs.Prelude.{ℕ, Bool, ◌&&◌, not, nat_le, nat_eq}

-- what may stand between quotes: bytes 32 to 126 other than "
abbrev pub is_quotable : ℕ → Bool
is_quotable b = nat_le 32 b && (nat_le b 126 && not (nat_eq b 34))
