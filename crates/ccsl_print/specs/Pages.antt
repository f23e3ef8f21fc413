-- How the printer writes a page: token by token, where what the line ends with so far tells whether a blank comes first.
use Rattle.std.specs.Prelude.{ℕ, Bool, true, false, ◌&&◌, ◌||◌, not, List, [], ◌∷◌, ◌++◌, nat_eq, if◌then◌else◌}
use Rattle.ccsl_grammar.specs.Terminals.{Terminal, symbol, name}
use Rattle.ccsl_print.specs.declared.edge.Edge.{Edge}
use Rattle.ccsl_print.specs.declared.edge.Edge.TheVariants.{Start, Opening, Named, Other}
use Rattle.ccsl_grammar.specs.Canonical.{TextLine}
use Rattle.ccsl_print.specs.CanonicalText.{written}

-- the text so far, and the end of its last line
pub record PlainPage : Type 0 where
  pub text : List ℕ
  pub edge : Edge

abbrev pub empty_page : PlainPage
empty_page = record { text = []; edge = Start }

-- whether a word, a name, a number or a quoted text would be parted from the edge by a blank
abbrev pub is_parted : Edge → Bool
is_parted Start = false
is_parted Opening = false
is_parted _ = true

abbrev pub is_named : Edge → Bool
is_named Named = true
is_named _ = false

-- whether a symbol would
abbrev pub is_parted_symbol : Edge → ℕ → Bool
is_parted_symbol e b = is_parted e && not ((nat_eq b 44 || nat_eq b 59 || nat_eq b 41) || (is_named e && nat_eq b 40))

abbrev pub is_parted_from : Edge → Terminal → Bool
is_parted_from e (symbol b) = is_parted_symbol e b
is_parted_from e _ = is_parted e

abbrev pub symbol_edge : ℕ → Edge
symbol_edge b = if nat_eq b 40 then Opening else Other

abbrev pub edge_of : Terminal → Edge
edge_of (symbol b) = symbol_edge b
edge_of (name x) = Named
edge_of _ = Other

abbrev pub blank_if : Bool → List ℕ
blank_if b = if b then (32 ∷ []) else []

-- a token more
unfoldable pub step : PlainPage → Terminal → PlainPage
step p t = record { text = p.text ++ (blank_if (is_parted_from p.edge t) ++ written t); edge = edge_of t }

-- tokens more
abbrev pub after : PlainPage → List Terminal → PlainPage
after p [] = p
after p (t ∷ ts) = after (step p t) ts

-- a line begins, and ends
unfoldable pub begun : PlainPage → Bool → PlainPage
begun p inside = record { text = p.text ++ (if inside then (32 ∷ 32 ∷ []) else []); edge = Start }

unfoldable pub ended : PlainPage → PlainPage
ended p = record { text = p.text ++ 10 ∷ []; edge = Start }

abbrev pub line_after : PlainPage → TextLine → PlainPage
line_after p l = ended (after (begun p l.inside) l.tokens)

abbrev pub lines_after : PlainPage → List TextLine → PlainPage
lines_after p [] = p
lines_after p (l ∷ ls) = lines_after (line_after p l) ls
