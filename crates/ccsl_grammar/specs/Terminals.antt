-- What the grammar sees of a token: everything that a tree keeps of it, and nothing else.
use Rattle.std.specs.Prelude.{ℕ, List, map}
use Rattle.ccsl_ast.specs.declared.spot.Spot.{Spot}
use Rattle.ccsl_lex.specs.declared.token.Token.{Token}
use Rattle.ccsl_lex.specs.declared.token.TokenKind.{TokenKind}
use Rattle.ccsl_lex.specs.declared.token.TokenKind.TheVariants.{Name, Num, Quoted, Word, Symbol}
use Rattle.ccsl_base.specs.declared.reserved.Reserved.{Reserved}

-- a reserved word, a symbol, a name with its place, a number with its place and value, a quoted text with its place
pub data Terminal : Type 0 where
  word : Reserved → Terminal
  symbol : ℕ → Terminal
  name : Spot → Terminal
  number : ℕ → ℕ → Terminal
  quoted : ℕ → List ℕ → Terminal

abbrev pub seen_as : ℕ → TokenKind → Terminal
seen_as at (Name text) = name (record { at = at; name = text })
seen_as at (Num n) = number at n
seen_as at (Quoted text) = quoted at text
seen_as at (Word w) = word w
seen_as at (Symbol b) = symbol b

abbrev pub terminal : Token → Terminal
terminal t = seen_as t.at t.kind

abbrev pub terminals : List Token → List Terminal
terminals ts = map terminal ts
