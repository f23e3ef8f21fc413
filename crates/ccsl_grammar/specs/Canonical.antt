-- THE LINES OF THE CANONICAL TEXT of a file, as terminals. Parentheses stand round an operand that has an operator or an if,
-- and nowhere else.
use Rattle.std.specs.Prelude.{Bool, true, false, List, [], ◌∷◌, ◌++◌, map, if◌then◌else◌}
use Rattle.std.specs.List.{flat_map}
use Rattle.ccsl_base.specs.declared.reserved.Reserved.TheVariants as w
use Rattle.ccsl_ast.specs.declared.spot.Spot.{Spot}
use Rattle.ccsl_ast.specs.declared.definition.Param.{Param}
use Rattle.ccsl_ast.specs.Trees.{Expression, EName, ECall, ENever, EBinary, EDelay, EAwait, EFilter, EDelayed, EIf, Line, LDefine, LConstraint, LCall, SLine}
use Rattle.ccsl_ast.specs.Trees.{SClocks, SLineOf, PlainMember, PlainDefinition, DRelation, DGroup, PlainFile}
use Rattle.ccsl_ast.specs.Depth.{stands_in_parens}
use Rattle.ccsl_grammar.specs.Terminals.{Terminal, word, name, number}
use Rattle.ccsl_grammar.specs.Grammar.{opening, closing, semicolon, equals, left_brace, right_brace, list_spelled, term_spelled, wterm_spelled, test_spelled}
use Rattle.ccsl_grammar.specs.Grammar.{args_spelled, params_spelled, relop_spelled, binop_spelled, clock_spelled}

-- an operand, where ts are the terminals of its expression
abbrev pub operand_tokens : Expression → List Terminal → List Terminal
operand_tokens e ts = if stands_in_parens e then opening ∷ (ts ++ closing ∷ []) else ts

abbrev pub expr_tokens : Expression → List Terminal
expr_tokens (EName x) = name x ∷ []
expr_tokens (ECall x args) = name x ∷ opening ∷ (args_spelled args ++ closing ∷ [])
expr_tokens ENever = word w.Never ∷ []
expr_tokens (EBinary op a d) = operand_tokens a (expr_tokens a) ++ (binop_spelled op ++ operand_tokens d (expr_tokens d))
expr_tokens (EDelay a m) = operand_tokens a (expr_tokens a) ++ word w.Delay ∷ term_spelled m
expr_tokens (EAwait a m) = operand_tokens a (expr_tokens a) ++ word w.Await ∷ term_spelled m
expr_tokens (EFilter a m) = operand_tokens a (expr_tokens a) ++ word w.Filter ∷ wterm_spelled m
expr_tokens (EDelayed a at n d) =
    operand_tokens a (expr_tokens a) ++ word w.Delayed ∷ number at n ∷ word w.On ∷ operand_tokens d (expr_tokens d)
expr_tokens (EIf q a d) = word w.If ∷ (test_spelled q ++ word w.Use ∷ (expr_tokens a ++ word w.Else ∷ expr_tokens d))

abbrev pub rline_tokens : Line → List Terminal
rline_tokens (LDefine x e) = word w.Define ∷ name x ∷ equals ∷ (expr_tokens e ++ semicolon ∷ [])
rline_tokens (LConstraint a r b) = name a ∷ (relop_spelled r ++ name b ∷ semicolon ∷ [])
rline_tokens (LCall x args) = name x ∷ opening ∷ (args_spelled args ++ closing ∷ semicolon ∷ [])

abbrev pub sline_tokens : SLine → List Terminal
sline_tokens (SClocks xs) = word w.Clock ∷ (list_spelled clock_spelled xs ++ semicolon ∷ [])
sline_tokens (SLineOf l) = rline_tokens l

abbrev pub head_tokens : Spot → List Param → List Terminal
head_tokens x params = word w.Relation ∷ name x ∷ opening ∷ (params_spelled params ++ closing ∷ left_brace ∷ [])

abbrev pub member_tokens : PlainMember → List Terminal
member_tokens m = name m.name ∷ opening ∷ (params_spelled m.params ++ closing ∷ equals ∷ expr_tokens m.body)

abbrev pub further_tokens : PlainMember → List Terminal
further_tokens m = word w.And ∷ member_tokens m

abbrev pub members_tokens : List PlainMember → List Terminal
members_tokens [] = []
members_tokens (m ∷ ms) = member_tokens m ++ flat_map further_tokens ms

-- ## Lines

-- a line of the text: whether it stands in a body, and its terminals
pub record TextLine : Type 0 where
  pub inside : Bool
  pub tokens : List Terminal

abbrev pub outer : List Terminal → TextLine
outer ts = record { inside = false; tokens = ts }

abbrev pub inner : List Terminal → TextLine
inner ts = record { inside = true; tokens = ts }

-- the lines of a body, and its closing brace on a line of its own
abbrev pub body_lines : {A : Type 0} → (A → List Terminal) → List A → List TextLine
body_lines tokens ls = map (λ l. inner (tokens l)) ls ++ outer (right_brace ∷ []) ∷ []

-- a relation has its head line and its body; a group is one line
abbrev pub definition_lines : PlainDefinition → List TextLine
definition_lines (DRelation x params lines) = outer (head_tokens x params) ∷ body_lines rline_tokens lines
definition_lines (DGroup members) = outer (word w.Expression ∷ (members_tokens members ++ semicolon ∷ [])) ∷ []

abbrev pub system_lines : List SLine → List TextLine
system_lines lines = outer (word w.System ∷ left_brace ∷ []) ∷ body_lines sline_tokens lines

-- the first statement, the definitions, the system
abbrev pub file_lines : PlainFile → List TextLine
file_lines f = outer (word w.Ccsl ∷ number 0 f.version ∷ semicolon ∷ []) ∷ (flat_map definition_lines f.definitions ++ system_lines f.lines)

abbrev pub canonical_terminals : PlainFile → List Terminal
canonical_terminals f = flat_map (λ l. l.tokens) (file_lines f)
