-- The front of a line that is not whole yet.
use Rattle.std.specs.Prelude.{ℕ, List, [], ◌++◌, Bool, true, false, length, nat_lt, if◌then◌else◌}
use Rattle.std.specs.Str.Lines.{strip_carriage_return}
use Rattle.ccsl_base.specs.declared.limits.TheConstants.{MAX_LINE_BYTES}
use Rattle.ccsl_lines.specs.Lines.{Line, Whole, Long}

-- what is kept of a front: its bytes, or that they are too many for a line
abbrev pub front_of : List ℕ → Line
front_of front = if nat_lt MAX_LINE_BYTES (length front) then Long else Whole front

-- the same with more bytes behind it
abbrev pub added : Line → List ℕ → Line
added (Whole bytes) more = front_of (bytes ++ more)
added Long more = Long

-- one carriage return at its end is dropped
abbrev pub stripped : Line → Line
stripped (Whole bytes) = Whole (strip_carriage_return bytes)
stripped Long = Long

-- the bytes that are to be seen of it
abbrev pub bytes_of : Line → List ℕ
bytes_of (Whole bytes) = bytes
bytes_of Long = []

-- how a buffer tells it: whether it is too long, and else its bytes
abbrev pub kept : Bool → List ℕ → Line
kept true bytes = Long
kept false bytes = Whole bytes
