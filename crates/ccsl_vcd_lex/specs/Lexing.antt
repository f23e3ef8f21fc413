-- What a tokenizer stands for.
use Rattle.std.specs.Prelude.{◌≡◌, ℕ, ◌+◌, ◌<◌, ◌≤◌, List, [], ◌∷◌, ◌++◌, length, take, Bool, true, false, not, Option, Some, None}
use Rattle.std.specs.List.{AllByRecursion}
use Rattle.ccsl_vcd_lex.specs.Tokens.{is_white, token, tokens, settled, Heard, word, too_long}
use Rattle.ccsl_vcd_lex.specs.LongTokens.{first_long}
use Rattle.ccsl_vcd_lex.specs.Runs.{fresh_after}
use Rattle.ccsl_vcd_lex.specs.declared.span.Span.{Span}
use Rattle.ccsl_base.specs.declared.limits.TheConstants.{MAX_TOKEN_BYTES}

-- a tokenizer as contracts see it
pub record Lexing : Type 0 where
  -- the place of the open token, or of the next byte where none is open
  pub begin : ℕ
  -- the bytes of the token that has not ended
  pub open_text : List ℕ
  -- the bytes of the token that ended last
  pub last : List ℕ
  -- whether a token was too long
  pub failed : Bool

abbrev pub is_dark : ℕ → Bool
is_dark b = not (is_white b)

-- none of the bytes is white
abbrev pub Dark : List ℕ → Type 0
Dark bytes = AllByRecursion (λ b. is_white b ≡ false) bytes

-- the open token goes on with bytes that are not kept, so that it has more than MAX_TOKEN_BYTES, and whatever follows
pub record GoesOn (text more : List ℕ) : Type 0 where
  pub next : List ℕ
  pub rest : List ℕ
  pub is : more ≡ next ++ rest
  pub dark : Dark next
  pub long : MAX_TOKEN_BYTES < length (text ++ next)

-- The bytes are those before the open token, its own, and nothing else, unless it is too long.
pub record StandsFor (v : Lexing) (bytes : List ℕ) : Type 0 where
  pub before : List ℕ
  pub more : List ℕ
  pub whole : bytes ≡ before ++ (v.open_text ++ more)
  pub fresh : fresh_after true before ≡ true
  pub short : first_long (tokens before) ≡ None
  pub dark : Dark v.open_text
  pub fits : length v.open_text ≤ MAX_TOKEN_BYTES
  pub begin : v.begin ≡ length before
  pub running : v.failed ≡ false → more ≡ []
  pub too_long : v.failed ≡ true → GoesOn v.open_text more

-- the token that an answer names, with its text
abbrev pub named : Option Span → List ℕ → List Heard
named None text = []
named (Some span) text = word (token span.at text) ∷ []

-- the length that an answer gives is that of the text
abbrev pub Spans : Option Span → List ℕ → Type 0
Spans None text = Unit {0}
Spans (Some span) text = (span.len ≡ length text) × (length text ≤ MAX_TOKEN_BYTES)

-- The front of a piece settles nothing, and the byte behind it that a token is too long.
pub record BreaksWithin (bytes piece : List ℕ) (at : ℕ) : Type 0 where
  pub taken : ℕ
  pub within : taken < length piece
  pub before : settled (bytes ++ take taken piece) ≡ settled bytes
  pub broke : settled (bytes ++ take (taken + 1) piece) ≡ settled bytes ++ too_long at ∷ []
