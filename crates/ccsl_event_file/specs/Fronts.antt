-- What the code finds at the front of a text.
use Rattle.std.specs.Prelude.{◌≡◌, ◌≤◌, ℕ, List, [], ◌∷◌, length, drop, Bool, false, Option, Some, None, ◌||◌}
use Rattle.ccsl_event_file.specs.declared.token.Token.{Token}
use Rattle.ccsl_event_file.specs.declared.token.Token.TheVariants as t
use Rattle.ccsl_event_file.specs.Tokens as tokens

-- a token as the code has it, where there is one
abbrev pub seen : Token → Option tokens.Token
seen (t.Word text) = Some (tokens.word text.now)
seen (t.Quoted text) = Some (tokens.quoted text.now)
seen (t.Letters text) = Some (tokens.letters text.now)
seen t.Equal = Some tokens.equal
seen t.Unequal = Some tokens.unequal
seen (t.Mark b) = Some (tokens.mark b)
seen t.End = None

-- this token stands at the front of a text, or none does, and this is the text behind it
abbrev pub IsFrontOf : List ℕ → Option tokens.Token → List ℕ → Type 0
IsFrontOf [] found rest = (found ≡ None) × (rest ≡ [])
IsFrontOf (b ∷ bs) found rest = (found ≡ Some (tokens.piece_at b bs).token) × (rest ≡ drop (tokens.piece_at b bs).more bs)

abbrev pub IsFront : List ℕ → Token → List ℕ → Type 0
IsFront text found rest = IsFrontOf text (seen found) rest

abbrev pub is_blank : List ℕ → Bool
is_blank [] = false
is_blank (b ∷ bs) = tokens.begins_remark b bs || tokens.is_white b

-- a text has the same tokens as one in front of which stand white space and remarks, and begins with none of them
pub record IsBehindBlank (text rest : List ℕ) : Type 0 where
  pub same : (len : ℕ) → tokens.tokens_in len (tokens.token 0) rest ≡ tokens.tokens_in len (tokens.token 0) text
  pub bare : is_blank rest ≡ false
  pub shorter : length rest ≤ length text
