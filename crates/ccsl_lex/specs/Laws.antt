-- What is true of the tokens and the faults of every text.
use Rattle.std.specs.Prelude.{◌≡◌, ℕ, ◌+◌, ◌≤◌, ◌⊎◌, Bool, true, false, List, [], ◌∷◌, ◌++◌, length}
use Rattle.std.specs.List.{list_all, flat_map}
use Rattle.ccsl_base.specs.Letters.{is_digit}
use Rattle.ccsl_base.specs.Decimal.{decimal_value}
use Rattle.ccsl_lex.specs.declared.token.TokenKind.{TokenKind}
use Rattle.ccsl_lex.specs.declared.token.TokenKind.TheVariants.{Name, Num, Quoted, Word, Symbol}
use Rattle.ccsl_lex.specs.declared.fault.LexFault.{LexFault}
use Rattle.ccsl_base.specs.ReservedWords.{spelling}
use Rattle.ccsl_lex.specs.Tokens.{Piece, blank, comment, text_of, is_white, is_remark, is_piece, Stands, PlainToken, AreTokens, IsFirstFault}

-- each text has tokens or a first fault
abbrev pub TokensOrFault : Type 0
TokensOrFault = (text : List ℕ) → ((ts : List PlainToken) × AreTokens text ts) ⊎ ((e : LexFault) × IsFirstFault e text)

-- a piece that stands in front is the longest piece in front
abbrev pub NoneLonger : Type 0
NoneLonger = (p q : Piece) (rest behind : List ℕ) → Stands p rest → is_piece q ≡ true → text_of p ++ rest ≡ text_of q ++ behind
    → length (text_of q) ≤ length (text_of p)

-- these bytes spell a token of this kind
abbrev pub IsSpelled : TokenKind → List ℕ → Type 0
IsSpelled (Name name) bytes = bytes ≡ name
IsSpelled (Num n) bytes = (list_all is_digit bytes ≡ true) × (n ≡ decimal_value bytes)
IsSpelled (Quoted text) bytes = bytes ≡ 34 ∷ (text ++ 34 ∷ [])
IsSpelled (Word word) bytes = bytes ≡ spelling word
IsSpelled (Symbol b) bytes = bytes ≡ b ∷ []

abbrev pub is_between : Piece → Bool
is_between (blank b) = is_white b
is_between (comment bytes) = list_all is_remark bytes
is_between _ = false

-- white space and comments alone, or nothing
pub record IsBetween (bytes : List ℕ) : Type 0 where
  pub pieces : List Piece
  pub whole : bytes ≡ flat_map text_of pieces
  pub all : list_all is_between pieces ≡ true

-- the first token of a text, whose first byte is number from, is t, and behind it stands rest
pub record BeginsWith (from : ℕ) (text : List ℕ) (t : PlainToken) (rest : List ℕ) : Type 0 where
  pub gap : List ℕ
  pub bytes : List ℕ
  pub whole : text ≡ gap ++ (bytes ++ rest)
  pub between : IsBetween gap
  pub spelled : IsSpelled t.kind bytes
  pub at : t.at ≡ from + length gap
  pub end : t.end ≡ t.at + length bytes

-- the tokens stand in the text in order, with nothing round them but white space and comments
abbrev pub StandIn : ℕ → List ℕ → List PlainToken → Type 0
StandIn from text [] = IsBetween text
StandIn from text (t ∷ ts) = (rest : List ℕ) × BeginsWith from text t rest × StandIn t.end rest ts

-- the tokens with what stands between them are the text again
abbrev pub TextAgain : Type 0
TextAgain = (text : List ℕ) (ts : List PlainToken) → AreTokens text ts → StandIn 0 text ts
