-- The tokens of a file of events, with their places. This language is this project's own.
use Rattle.std.specs.Prelude.{ℕ, zero, suc, ◌+◌, ◌-◌, List, [], ◌∷◌, length, take, drop, get_or, Bool, false, not, nat_le, ◌==◌, ◌&&◌, ◌||◌, if◌then◌else◌}
use Rattle.std.specs.Prelude.{codes}
use Rattle.std.specs.Option.{unwrap_or}
use Rattle.std.specs.List.{list_any, position}
use Rattle.ccsl_base.specs.Letters.{is_inner}

pub data Token : Type 0 where
  -- letters, digits, _ and $
  word : List ℕ → Token
  -- what stands between quotes in one line
  quoted : List ℕ → Token
  -- the letters of a value behind 'b
  letters : List ℕ → Token
  -- ==
  equal : Token
  -- !=
  unequal : Token
  -- any other byte
  mark : ℕ → Token

-- white space: tab, line feed, vertical tab, form feed, carriage return, blank
abbrev pub is_white : ℕ → Bool
is_white b = b == 32 || (nat_le 9 b && nat_le b 13)

abbrev pub is_word_byte : ℕ → Bool
is_word_byte b = is_inner b || b == 36

abbrev pub is_letter : ℕ → Bool
is_letter b = list_any (λ c. c == b) (codes "01xXzZuUwWlLhH-")

-- how many bytes stand in front of the first that passes a test: all where none does
abbrev pub up_to : (ℕ → Bool) → List ℕ → ℕ
up_to test bytes = unwrap_or (position test bytes) (length bytes)

abbrev pub begins_with : ℕ → List ℕ → Bool
begins_with c [] = false
begins_with c (b ∷ bs) = b == c

-- the place of a quote, or of the end of its line
abbrev pub quote_end : List ℕ → ℕ
quote_end bytes = up_to (λ b. b == 34 || b == 10) bytes

abbrev pub is_closed : List ℕ → Bool
is_closed bytes = get_or bytes (quote_end bytes) 0 == 34

-- a token, and how many bytes it has behind its first
pub record Piece : Type 0 where
  pub token : Token
  pub more : ℕ

abbrev pub piece : Token → ℕ → Piece
piece token more = record { token = token; more = more }

-- what a quote begins, with these bytes behind it: a text, unless the line ends before the next quote
abbrev pub quoted_piece : List ℕ → Piece
quoted_piece bs =
    if is_closed bs then piece (quoted (take (quote_end bs) bs)) (quote_end bs + 1)
    else piece (mark 34) 0

-- what 'b begins, with these bytes behind it
abbrev pub letters_piece : List ℕ → Piece
letters_piece bs =
    piece (letters (take (up_to (λ c. not (is_letter c)) bs) bs)) (up_to (λ c. not (is_letter c)) bs + 1)

abbrev pub word_piece : ℕ → List ℕ → Piece
word_piece b bs = piece (word (b ∷ take (up_to (λ c. not (is_word_byte c)) bs) bs)) (up_to (λ c. not (is_word_byte c)) bs)

-- the token that a byte begins, with these behind it
unfoldable pub piece_at : ℕ → List ℕ → Piece
piece_at b bs =
    if is_word_byte b then word_piece b bs
    else (if b == 34 then quoted_piece bs
    else (if b == 39 && begins_with 98 bs then letters_piece (drop 1 bs)
    else (if begins_with 61 bs && b == 61 then piece equal 1
    else (if begins_with 61 bs && b == 33 then piece unequal 1
    else piece (mark b) 0))))

-- // begins a remark, which ends with its line
abbrev pub begins_remark : ℕ → List ℕ → Bool
begins_remark b bs = b == 47 && begins_with 47 bs

pub record Placed : Type 0 where
  pub at : ℕ
  pub token : Token

abbrev pub placed : ℕ → Token → Placed
placed at token = record { at = at; token = token }

-- a byte stands in a remark, or in a token of which so many bytes are left: between two tokens none is
pub data Amid : Type 0 where
  remark : Amid
  token : ℕ → Amid

-- The tokens in the last bytes of a file of so many: the place of a byte is how many stand in front of it.
unfoldable pub tokens_in : ℕ → Amid → List ℕ → List Placed
tokens_in len amid [] = []
tokens_in len remark (b ∷ bs) = tokens_in len (if b == 10 then token 0 else remark) bs
tokens_in len (token (suc n)) (b ∷ bs) = tokens_in len (token n) bs
tokens_in len (token zero) (b ∷ bs) =
    if begins_remark b bs then tokens_in len remark bs
    else (if is_white b then tokens_in len (token 0) bs
    else placed (len - length (b ∷ bs)) (piece_at b bs).token ∷ tokens_in len (token (piece_at b bs).more) bs)

-- the tokens of a whole file
abbrev pub tokens : List ℕ → List Placed
tokens text = tokens_in (length text) (token 0) text
