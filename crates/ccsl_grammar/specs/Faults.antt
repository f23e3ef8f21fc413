-- Where a fault stands in a text.
use Rattle.std.specs.Prelude.{◌≡◌, ℕ, List, [], ◌∷◌, ◌++◌}
use Rattle.ccsl_lex.specs.declared.token.Token.{Token}
use Rattle.ccsl_grammar.specs.Terminals.{terminals}
use Rattle.ccsl_grammar.specs.File.{FailsAt, DeepAt}

-- the end of the last token, or 0
abbrev pub last_end : List Token → ℕ
last_end [] = 0
last_end (t ∷ []) = t.end
last_end (t ∷ u ∷ ts) = last_end (u ∷ ts)

-- the first byte of the token behind front, or the end of the last token where there is none
abbrev pub place : List Token → List Token → ℕ
place front [] = last_end front
place front (t ∷ ts) = t.at

-- a fault of syntax stands at this place of the tokens
pub record SyntaxAt (room : ℕ) (ts : List Token) (at : ℕ) : Type 0 where
  pub front : List Token
  pub back : List Token
  pub whole : ts ≡ front ++ back
  pub fails : FailsAt room (terminals front) (terminals back)
  pub is : at ≡ place front back

pub record TooDeepAt (room : ℕ) (ts : List Token) (at : ℕ) : Type 0 where
  pub front : List Token
  pub back : List Token
  pub whole : ts ≡ front ++ back
  pub deep : DeepAt room (terminals front) (terminals back)
  pub is : at ≡ place front back
