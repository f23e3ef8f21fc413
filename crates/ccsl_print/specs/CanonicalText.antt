-- THE CANONICAL TEXT of a file: how the tokens of its lines stand in it.
use Rattle.std.specs.Prelude.{ℕ, Bool, ◌&&◌, ◌||◌, List, [], ◌∷◌, ◌++◌, if◌then◌else◌}
use Rattle.std.specs.List.{flat_map}
use Rattle.std.specs.Fmt.{decimal}
use Rattle.ccsl_base.specs.ReservedWords.{spelling}
use Rattle.ccsl_ast.specs.Trees.{PlainFile}
use Rattle.ccsl_grammar.specs.Terminals.{Terminal, word, symbol, name, number, quoted}
use Rattle.ccsl_grammar.specs.Kinds.{is_symbol, is_name}
use Rattle.ccsl_grammar.specs.Canonical.{TextLine, file_lines}

-- how a token is written; a number has no leading zeros
abbrev pub written : Terminal → List ℕ
written (word w) = spelling w
written (symbol b) = b ∷ []
written (name x) = x.name
written (number at n) = decimal n
written (quoted at bytes) = 34 ∷ (bytes ++ 34 ∷ [])

-- no blank stands before , ; ) and none after ( and none between a called or defined name and its (
abbrev pub touches : Terminal → Terminal → Bool
touches t u = (is_symbol 44 u || is_symbol 59 u || is_symbol 41 u) || (is_symbol 40 t || (is_name t && is_symbol 40 u))

-- between any two others stands one blank
abbrev pub laid : List Terminal → List ℕ
laid [] = []
laid (t ∷ []) = written t
laid (t ∷ u ∷ ts) = written t ++ ((if touches t u then [] else (32 ∷ [])) ++ laid (u ∷ ts))

-- a line of a body begins with two blanks; each line ends in a line feed
abbrev pub line_text : TextLine → List ℕ
line_text l = (if l.inside then (32 ∷ 32 ∷ []) else []) ++ (laid l.tokens ++ 10 ∷ [])

abbrev pub canonical_text : PlainFile → List ℕ
canonical_text f = flat_map line_text (file_lines f)
