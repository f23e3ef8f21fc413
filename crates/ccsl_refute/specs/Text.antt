-- The lines of a text, and the tokens of a line, each with its place in the text.
use Rattle.std.specs.Prelude.{ℕ, suc, ◌+◌, List, [], ◌∷◌, Bool, true, false, ◌||◌, length, filter, nat_eq}
use Rattle.std.specs.List.{slice_split}
use Rattle.std.specs.Str.Lines.{strip_carriage_return}

-- a piece of a text: the place of its first byte, and its bytes
abbrev pub Piece : Type 0
Piece = ℕ × List ℕ

-- pieces from a place on, with one byte between each and the next
abbrev pub placed : ℕ → List (List ℕ) → List Piece
placed at [] = []
placed at (w ∷ ws) = (at, w) ∷ placed (suc (at + length w)) ws

abbrev pub is_line_feed : ℕ → Bool
is_line_feed b = nat_eq b 10

-- a blank or a tab
abbrev pub is_blank : ℕ → Bool
is_blank b = nat_eq b 32 || nat_eq b 9

-- what ends at a line feed loses the one carriage return before it
abbrev pub without_returns : List Piece → List Piece
without_returns [] = []
without_returns (p ∷ []) = p ∷ []
without_returns (p ∷ q ∷ ps) = (p.0, strip_carriage_return p.1) ∷ without_returns (q ∷ ps)

-- the lines of what is left of a text from a place on: what stands before, between and after the line feeds
abbrev pub lines_from : ℕ → List ℕ → List Piece
lines_from at text = without_returns (placed at (slice_split is_line_feed text))

abbrev pub has_bytes : Piece → Bool
has_bytes (at, []) = false
has_bytes (at, b ∷ bs) = true

-- the tokens of a line that begins at a place: what stands between blanks and tabs
abbrev pub tokens : ℕ → List ℕ → List Piece
tokens at line = filter has_bytes (placed at (slice_split is_blank line))
