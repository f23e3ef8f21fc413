-- What a reader of lines holds, and what it stands for: the bytes that were read, and the lines that were handed out.
use Rattle.std.specs.Prelude.{◌≡◌, ℕ, ◌+◌, ◌-◌, ◌≤◌, List, [], ◌++◌, Bool, true, false, Option, Some, None, All, length, map, take, nat_lt, if◌then◌else◌}
use Rattle.ccsl_lines.specs.Lines.{Line, Whole, is_line_feed, parts, line_of, lines_taken}
use Rattle.ccsl_lines.specs.Part.{front_of}

pub record Held : Type 0 where
  -- the most bytes that are taken
  pub limit : ℕ
  -- how many more may be taken; nothing once a byte past the limit was read
  pub left : Option ℕ
  -- of the bytes that were read and are taken, those that were not looked at
  pub pending : List ℕ
  -- what was looked at of the line that is next, or else the line that was handed out
  pub part : Line
  pub handed : Bool
  -- the bytes of the line that was handed out last
  pub line : List ℕ
  -- the end of the input was seen
  pub ended : Bool

-- the next line as far as it was looked at, by whether the part was handed out
abbrev pub begun : Bool → Line → Line
begun true part = Whole []
begun false part = part

-- how many more bytes may be taken, where so many were read
abbrev pub left_of : ℕ → ℕ → Option ℕ
left_of limit count = if nat_lt limit count then None else Some (limit - count)

abbrev pub HasNoLineFeed : List ℕ → Type 0
HasNoLineFeed bytes = All (λ b. is_line_feed b ≡ false) bytes

-- the bytes are parts that end at a line feed, and these are their lines
pub record AreLines (bytes : List ℕ) (lines : List Line) : Type 0 where
  pub closed : List (List ℕ)
  pub split : (more : List ℕ) → parts (bytes ++ more) ≡ closed ++ parts more
  pub lines_are : lines ≡ map line_of closed

-- the bytes are those of the lines that were handed out, then a front of the next line, and the pending ones
pub record Goes (h : Held) (bytes : List ℕ) (given : List Line) : Type 0 where
  pub closed : List ℕ
  pub front : List ℕ
  pub seen : take h.limit bytes ≡ (closed ++ front) ++ h.pending
  pub are_lines : AreLines closed given
  pub unended : HasNoLineFeed front
  pub begun_is : begun h.handed h.part ≡ front_of front
  -- at most one byte past the limit was read
  pub few : length bytes ≤ h.limit + 1
  pub left_is : h.left ≡ left_of h.limit (length bytes)

-- the bytes are all that there are, and so are the lines
pub record HasEnded (h : Held) (bytes : List ℕ) (given : List Line) : Type 0 where
  pub few : length bytes ≤ h.limit
  pub lines_are : lines_taken h.limit bytes ≡ given

pub data StandsFor (h : Held) (bytes : List ℕ) (given : List Line) : Type 0 where
  going : (runs : h.ended ≡ false) (goes : Goes h bytes given) → StandsFor h bytes given
  ended : (end : h.ended ≡ true) (has_ended : HasEnded h bytes given) → StandsFor h bytes given

-- how many bytes may still be read
abbrev pub readable : Option ℕ → ℕ
readable None = 0
readable (Some n) = n + 1

-- a bound on the calls that hand out a line: each looks at a pending byte, or at one that may still be read, or sees the end
abbrev pub calls_left : Held → ℕ
calls_left h = if h.ended then 0 else readable h.left + length h.pending
