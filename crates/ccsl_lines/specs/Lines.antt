-- THE LINES OF AN INPUT of which only so many bytes are taken. This project's own.
use Rattle.std.specs.Prelude.{ℕ, List, [], ◌∷◌, Bool, length, take, nat_eq, nat_lt, if◌then◌else◌}
use Rattle.std.specs.List.{slice_split}
use Rattle.std.specs.Str.Lines.{strip_carriage_return}
use Rattle.ccsl_base.specs.declared.limits.TheConstants.{MAX_LINE_BYTES}

-- a line: its bytes, or that they are too many
pub data Line : Type 0 where
  Whole : (bytes : List ℕ) → Line
  Long : Line

abbrev pub is_line_feed : ℕ → Bool
is_line_feed b = nat_eq b 10

-- what stands before, between and behind the line feeds
abbrev pub parts : List ℕ → List (List ℕ)
parts text = slice_split is_line_feed text

-- the line of a part: one carriage return at its end is dropped
abbrev pub line_of : List ℕ → Line
line_of part = if nat_lt MAX_LINE_BYTES (length part) then Long else Whole (strip_carriage_return part)

-- the lines that end at a line feed: all parts but the last
abbrev pub ended_lines : List (List ℕ) → List Line
ended_lines [] = []
ended_lines (p ∷ []) = []
ended_lines (p ∷ q ∷ ps) = line_of p ∷ ended_lines (q ∷ ps)

-- and the last part too, where it has a byte
abbrev pub all_lines : List (List ℕ) → List Line
all_lines [] = []
all_lines ([] ∷ []) = []
all_lines ((b ∷ bs) ∷ []) = line_of (b ∷ bs) ∷ []
all_lines (p ∷ q ∷ ps) = line_of p ∷ all_lines (q ∷ ps)

-- THE LINES TAKEN: all lines of an input of at most so many bytes; of a longer one those that end at a line feed within so many
abbrev pub lines_taken : ℕ → List ℕ → List Line
lines_taken limit input = if nat_lt limit (length input) then ended_lines (parts (take limit input)) else all_lines (parts input)
