-- The first line of a text.
use Rattle.std.specs.Prelude.{ℕ, List, length, take, nat_lt, if◌then◌else◌}
use Rattle.std.specs.Str.Lines.{strip_carriage_return}

-- the line of n bytes that a text begins with: one that ends at a line feed loses the one carriage return before it
abbrev pub line_before : ℕ → List ℕ → List ℕ
line_before n text = if nat_lt n (length text) then strip_carriage_return (take n text) else take n text
