-- The tokens of a whole value change dump, with their places. IEEE 1364-2005, clause 18.2: the file is free in format, and
-- white space separates its parts.
use Rattle.std.specs.Prelude.{ℕ, ◌+◌, List, [], ◌∷◌, length, Bool, true, false, nat_le, nat_lt, ◌==◌, ◌&&◌, ◌||◌, if◌then◌else◌, filter, map}
use Rattle.ccsl_base.specs.declared.limits.TheConstants.{MAX_TOKEN_BYTES}

-- white space: tab, line feed, vertical tab, form feed, carriage return, blank
unfoldable pub is_white : ℕ → Bool
is_white b = (nat_le 9 b && nat_le b 13) || (b == 32)

-- a token: the place of its first byte, counted from 0, and its bytes
pub record Token : Type 0 where
  pub at : ℕ
  pub text : List ℕ

abbrev pub token : ℕ → List ℕ → Token
token at text = record { at = at; text = text }

-- the place right after it
abbrev pub end_of : Token → ℕ
end_of t = t.at + length t.text

-- the longest run of other bytes at the front
unfoldable pub run : List ℕ → List ℕ
run [] = []
run (b ∷ bs) = if is_white b then [] else b ∷ run bs

-- A token begins at each byte that is not white, and that stands at the start or behind white space.
abbrev pub begins : Bool → Bool → Token → List Token → List Token
begins true false t ts = t ∷ ts
begins true true t ts = ts
begins false white t ts = ts

-- the tokens of bytes of which the first stands at a place, behind white space or not
unfoldable pub tokens_from : Bool → ℕ → List ℕ → List Token
tokens_from fresh at [] = []
tokens_from fresh at (b ∷ bs) =
    begins fresh (is_white b) (token at (run (b ∷ bs))) (tokens_from (is_white b) (at + 1) bs)

-- the tokens of a whole file
abbrev pub tokens : List ℕ → List Token
tokens bytes = tokens_from true 0 bytes

-- a token with more than MAX_TOKEN_BYTES
abbrev pub is_long : Token → Bool
is_long t = nat_lt MAX_TOKEN_BYTES (length t.text)

-- the tokens that no later byte can change: those that end inside these bytes, and those that are too long already
abbrev pub closed : List ℕ → List Token
closed bytes = filter (λ t. nat_lt (end_of t) (length bytes) || is_long t) (tokens bytes)

-- what is said of a token: its place and its bytes, or only its place where it is too long
pub data Heard : Type 0 where
  word : Token → Heard
  too_long : ℕ → Heard

abbrev pub hear : Token → Heard
hear t = if is_long t then too_long t.at else word t

-- what is said of the tokens of a whole file
abbrev pub heard : List ℕ → List Heard
heard bytes = map hear (tokens bytes)

-- what these bytes settle of it, whatever follows
abbrev pub settled : List ℕ → List Heard
settled bytes = map hear (closed bytes)
