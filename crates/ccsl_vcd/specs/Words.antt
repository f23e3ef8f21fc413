-- What a token says in a body where a change may stand. IEEE 1364-2005, clause 18.2.1: simulation times, scalar, vector and real
-- value changes, and commands. The letters U, W, L, H and - are those of VHDL's nine values (IEEE 1164), as GHDL writes
-- them; s and S begin a string's value, as GHDL and Verilator write it. These two are this project's profile.
use Rattle.std.specs.Prelude.{ℕ, List, [], ◌∷◌, Bool, not, Option, Some, None, ◌==◌, ◌&&◌, ◌||◌, if◌then◌else◌, codes, bytes_eq}
use Rattle.std.specs.List.{list_any, list_all}
use Rattle.ccsl_base.specs.Empty.{is_empty}
use Rattle.ccsl_base.specs.Decimal.{number_up_to}

-- whether a byte is one of some letters
abbrev pub is_one_of : List ℕ → ℕ → Bool
is_one_of letters b = list_any (λ c. c == b) letters

-- the letters of values of one bit
abbrev pub is_scalar : ℕ → Bool
is_scalar b = is_one_of (codes "01xXzZuUwWlLhH-") b

-- one or more digits, with a value up to a limit
unfoldable pub number : ℕ → List ℕ → Option ℕ
number limit text = number_up_to limit text

-- the last of some bytes
abbrev pub last_of : ℕ → List ℕ → ℕ
last_of b [] = b
last_of b (c ∷ cs) = last_of c cs

-- A value says whether it is 1: that of a vector, whether its last letter is. All other letters count alike.
pub data Word : Type 0 where
  time : ℕ → Word
  -- a value and the code that it is for
  scalar : Bool → List ℕ → Word
  -- a value whose code is the next token
  vector : Bool → Word
  -- the value of a real or a string, whose code is the next token
  skipped : Word
  comment : Word
  -- the beginning of a dump block
  dump : Word
  -- values are not recorded any more
  gap : Word
  -- $end
  close : Word
  bad_time : Word
  bad_change : Word
  unknown : Word

abbrev pub time_of : Option ℕ → Word
time_of (Some n) = time n
time_of None = bad_time

abbrev pub command_of : List ℕ → Word
command_of text =
    if bytes_eq text (codes "$comment") then comment
    else (if bytes_eq text (codes "$dumpvars") || (bytes_eq text (codes "$dumpall") || bytes_eq text (codes "$dumpon")) then dump
    else (if bytes_eq text (codes "$dumpoff") then gap
    else (if bytes_eq text (codes "$end") then close
    else unknown)))

-- a token that is no time and no command, by its first byte and the rest
abbrev pub change_of : ℕ → List ℕ → Word
change_of b rest =
    if is_scalar b && not (is_empty rest) then scalar (b == 49) rest
    else (if is_one_of (codes "bB") b && (not (is_empty rest) && list_all is_scalar rest) then vector (last_of b rest == 49)
    else (if is_one_of (codes "rR") b && not (is_empty rest) then skipped
    else (if is_one_of (codes "sS") b then skipped
    else bad_change)))

-- the table of tokens: # begins a time, and $ a command
unfoldable pub word_of : List ℕ → Word
word_of [] = bad_change
word_of (b ∷ rest) =
    if b == 35 then time_of (number 18446744073709551615 rest)
    else (if b == 36 then command_of (b ∷ rest)
    else change_of b rest)
