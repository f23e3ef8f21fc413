-- What the lines that were handed out are worth.
use Rattle.std.specs.Prelude.{◌≡◌, ℕ, ◌+◌, ◌≤◌, List, [], ◌++◌, length, take, true, false}
use Rattle.ccsl_lines.specs.Lines.{Line, parts, ended_lines, lines_taken}
use Rattle.ccsl_lines.specs.Held.{Held, HasNoLineFeed, StandsFor}

-- more lines stand behind these
pub record Begins (given all : List Line) : Type 0 where
  pub behind : List Line
  pub is : all ≡ given ++ behind

-- LINES THAT WERE HANDED OUT ARE TAKEN, whatever the input has behind the bytes that were read
abbrev pub GivenLinesAreTaken : Type 0
GivenLinesAreTaken = (h : Held) (bytes rest : List ℕ) (given : List Line) → StandsFor h bytes given → (h.ended ≡ true → rest ≡ []) →
    Begins given (lines_taken h.limit (bytes ++ rest))

-- AT MOST ONE BYTE IS READ PAST THOSE THAT ARE TAKEN
abbrev pub FewBytesAreRead : Type 0
FewBytesAreRead = (h : Held) (bytes : List ℕ) (given : List Line) → StandsFor h bytes given → length bytes ≤ h.limit + 1

-- WHAT IS READ IN SEARCH OF A LINE FEED ENDS NO LINE: behind the bytes that a reader has read, more that have none beside the
-- pending ones. So before its last piece no line had ended but those that were handed out.
abbrev pub SearchEndsNoLine : Type 0
SearchEndsNoLine = (h : Held) (bytes more : List ℕ) (given : List Line) → StandsFor h bytes given → h.ended ≡ false →
    HasNoLineFeed (h.pending ++ more) → ended_lines (parts (take h.limit (bytes ++ more))) ≡ given
