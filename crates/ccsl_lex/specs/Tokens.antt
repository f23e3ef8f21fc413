-- The tokens of a text: longest tokens from the left, or the first fault.
--
-- A text is cut into pieces: tokens, comments and bytes of white space. The table says what a piece is, and which byte behind
-- it would still belong to it. The tokens of a text are those of its pieces, and each is as long as possible.
use Rattle.std.specs.Prelude.{◌≡◌, ℕ, ◌+◌, Bool, true, false, ◌&&◌, ◌||◌, not, List, [], ◌∷◌, ◌++◌, length, Option, Some, None, nat_eq, nat_le, codes}
use Rattle.std.specs.List.{list_all, list_any, flat_map}
use Rattle.ccsl_base.specs.declared.limits.TheConstants.{MAX_NAME_BYTES, MAX_NUMBER}
use Rattle.ccsl_base.specs.Letters.{is_letter, is_digit, is_inner}
use Rattle.ccsl_base.specs.Decimal.{decimal_value}
use Rattle.ccsl_base.specs.declared.reserved.Reserved.{Reserved}
use Rattle.ccsl_lex.specs.declared.token.TokenKind.{TokenKind}
use Rattle.ccsl_lex.specs.declared.token.TokenKind.TheVariants.{Name, Num, Quoted, Word, Symbol}
use Rattle.ccsl_lex.specs.declared.token.Token.{Token}
use Rattle.ccsl_lex.specs.declared.fault.LexFault.{LexFault}
use Rattle.ccsl_lex.specs.declared.fault.LexFault.TheVariants.{BadByte, NameTooLong, NumberTooLarge, OpenText, Memory}
use Rattle.ccsl_base.specs.Quoted.{is_quotable}
use Rattle.ccsl_base.specs.ReservedWords.{reserved}

-- ## Pieces

pub data Piece : Type 0 where
  blank : ℕ → Piece  -- a byte of white space
  comment : List ℕ → Piece  -- what stands behind the //
  letters : List ℕ → Piece  -- a name or a reserved word
  digits : List ℕ → Piece
  quoted : List ℕ → Piece  -- what stands between the quotes
  mark : ℕ → Piece  -- a symbol

abbrev pub text_of : Piece → List ℕ
text_of (blank b) = b ∷ []
text_of (comment bytes) = 47 ∷ 47 ∷ bytes
text_of (letters bytes) = bytes
text_of (digits bytes) = bytes
text_of (quoted bytes) = 34 ∷ (bytes ++ 34 ∷ [])
text_of (mark b) = b ∷ []

abbrev pub is_white : ℕ → Bool
is_white b = list_any (nat_eq b) (32 ∷ 9 ∷ 10 ∷ 13 ∷ [])

abbrev pub is_mark : ℕ → Bool
is_mark b = list_any (nat_eq b) (codes "(){},;=<+-")

-- what may stand in a comment: any byte but a line feed
abbrev pub is_remark : ℕ → Bool
is_remark b = not (nat_eq b 10)

-- whether there is a first byte, and it passes the test
abbrev pub starts : (ℕ → Bool) → List ℕ → Bool
starts test [] = false
starts test (b ∷ bytes) = test b

-- THE TABLE: what each piece is ..
abbrev pub is_piece : Piece → Bool
is_piece (blank b) = is_white b
is_piece (comment bytes) = list_all is_remark bytes
is_piece (letters bytes) = starts is_letter bytes && list_all is_inner bytes
is_piece (digits bytes) = starts is_digit bytes && list_all is_digit bytes
is_piece (quoted bytes) = list_all is_quotable bytes
is_piece (mark b) = is_mark b

-- .. and which byte behind it would still belong to it
abbrev pub goes_on : Piece → ℕ → Bool
goes_on (comment bytes) = is_remark
goes_on (letters bytes) = is_inner
goes_on (digits bytes) = is_digit
goes_on _ = λ next. false

-- the piece p stands in front of rest, and is as long as possible
pub record Stands (p : Piece) (rest : List ℕ) : Type 0 where
  pub is : is_piece p ≡ true
  pub longest : starts (goes_on p) rest ≡ false

-- the pieces stand one behind the other, in front of rest
abbrev pub AreCut : List Piece → List ℕ → Type 0
AreCut [] rest = Unit {0}
AreCut (p ∷ ps) rest = Stands p (flat_map text_of ps ++ rest) × AreCut ps rest

-- ## Tokens

-- whether a piece is within the limits on names and words of letters, and on numbers
abbrev pub fits : Piece → Bool
fits (letters bytes) = nat_le (length bytes) MAX_NAME_BYTES
fits (digits bytes) = nat_le (decimal_value bytes) MAX_NUMBER
fits _ = true

-- a token as clauses speak of it: its first byte, the byte behind it, and what it is
pub record PlainToken : Type 0 where
  pub at : ℕ
  pub end : ℕ
  pub kind : TokenKind

abbrev pub plain_token : Token → PlainToken
plain_token t = record { at = t.at; end = t.end; kind = t.kind }

abbrev pub name_or_word : List ℕ → Option Reserved → TokenKind
name_or_word bytes (Some word) = Word word
name_or_word bytes None = Name bytes

-- what token a piece is: white space and comments are none
abbrev pub kind_of : Piece → Option TokenKind
kind_of (blank b) = None
kind_of (comment bytes) = None
kind_of (letters bytes) = Some (name_or_word bytes (reserved bytes))
kind_of (digits bytes) = Some (Num (decimal_value bytes))
kind_of (quoted bytes) = Some (Quoted bytes)
kind_of (mark b) = Some (Symbol b)

abbrev pub token_at : ℕ → ℕ → Option TokenKind → List PlainToken
token_at at end None = []
token_at at end (Some kind) = record { at = at; end = end; kind = kind } ∷ []

-- the tokens of pieces, of which the first begins at byte at
abbrev pub tokens_of : ℕ → List Piece → List PlainToken
tokens_of at [] = []
tokens_of at (p ∷ ps) = token_at at (at + length (text_of p)) (kind_of p) ++ tokens_of (at + length (text_of p)) ps

-- THE TOKENS OF A TEXT: it is cut into longest pieces, each within the limits, and these are their tokens
pub record AreTokens (text : List ℕ) (tokens : List PlainToken) : Type 0 where
  pub pieces : List Piece
  pub whole : text ≡ flat_map text_of pieces
  pub cut : AreCut pieces []
  pub fit : list_all fits pieces ≡ true
  pub are : tokens ≡ tokens_of 0 pieces

-- ## The first fault

-- the text is cut into longest pieces, each within the limits, up to byte at, where rest begins
pub record CutAt (text : List ℕ) (at : ℕ) (rest : List ℕ) : Type 0 where
  pub pieces : List Piece
  pub whole : text ≡ flat_map text_of pieces ++ rest
  pub cut : AreCut pieces rest
  pub fit : list_all fits pieces ≡ true
  pub is : at ≡ length (flat_map text_of pieces)

-- whether there is a first byte, and no piece begins with it
abbrev pub is_bad : List ℕ → Bool
is_bad [] = false
is_bad (b ∷ bytes) = not (is_white b || is_letter b || is_digit b || is_mark b || nat_eq b 34 || (nat_eq b 47 && starts (nat_eq 47) bytes))

abbrev pub IsBad : List ℕ → Type 0
IsBad rest = is_bad rest ≡ true

-- in front stands a piece of this kind that is past its limit
pub record IsPastLimit (kind : List ℕ → Piece) (rest : List ℕ) : Type 0 where
  pub bytes : List ℕ
  pub behind : List ℕ
  pub whole : rest ≡ text_of (kind bytes) ++ behind
  pub stands : Stands (kind bytes) behind
  pub past : fits (kind bytes) ≡ false

-- in front stands a quote, and behind it the end, or a byte that can't stand between quotes, comes before the next quote
pub record IsOpen (rest : List ℕ) : Type 0 where
  pub bytes : List ℕ
  pub behind : List ℕ
  pub whole : rest ≡ 34 ∷ (bytes ++ behind)
  pub quotable : list_all is_quotable bytes ≡ true
  pub open_end : starts (λ b. is_quotable b || nat_eq b 34) behind ≡ false

-- the first fault of the text stands at byte at: before it are longest pieces within the limits, and it begins what is there
pub record StandsFirst (BeginsFault : List ℕ → Type 0) (text : List ℕ) (at : ℕ) : Type 0 where
  pub rest : List ℕ
  pub before : CutAt text at rest
  pub fault : BeginsFault rest

-- THE FIRST FAULT OF A TEXT
abbrev pub IsFirstFault : LexFault → List ℕ → Type 0
IsFirstFault (BadByte at) text = StandsFirst IsBad text at
IsFirstFault (NameTooLong at) text = StandsFirst (IsPastLimit letters) text at
IsFirstFault (NumberTooLarge at) text = StandsFirst (IsPastLimit digits) text at
IsFirstFault (OpenText at) text = StandsFirst IsOpen text at
IsFirstFault Memory text = ⊥
