-- THE GRAMMAR of a specification's text. Braces mean any number of times, brackets at most once.
-- A derivation has one constructor for each production, `.._spelled` gives the terminals that it derives, and `.._tree` its
-- tree. The forms of version 2, `upto weakly` and `precedes within`, are there only where the version is 2.
--     two    whether the version is 2
use Rattle.std.specs.Prelude.{ℕ, Bool, List, [], ◌∷◌, ◌++◌, map, if◌then◌else◌, IsTrue}
use Rattle.std.specs.List.{flat_map}
use Rattle.ccsl_base.specs.declared.reserved.Reserved.TheVariants as w
use Rattle.ccsl_ast.specs.declared.spot.Spot.{Spot}
use Rattle.ccsl_ast.specs.declared.term.Sign.{Sign}
use Rattle.ccsl_ast.specs.declared.term.Sign.TheVariants.{Plus, Minus}
use Rattle.ccsl_ast.specs.declared.term.Primary.{Primary}
use Rattle.ccsl_ast.specs.declared.term.Primary.TheVariants as prim
use Rattle.ccsl_ast.specs.declared.term.Term.{Term}
use Rattle.ccsl_ast.specs.declared.term.WordTerm.{WordTerm}
use Rattle.ccsl_ast.specs.declared.term.WordTerm.TheVariants as wterm
use Rattle.ccsl_ast.specs.declared.term.Test.{Test}
use Rattle.ccsl_ast.specs.declared.term.Test.TheVariants.{Equal, Less, Head, Ended}
use Rattle.ccsl_ast.specs.declared.term.Argument.{Argument}
use Rattle.ccsl_ast.specs.declared.term.Argument.TheVariants as arg
use Rattle.ccsl_ast.specs.declared.tree.BinaryOp.{BinaryOp}
use Rattle.ccsl_ast.specs.declared.tree.BinaryOp.TheVariants as op
use Rattle.ccsl_ast.specs.declared.line.Relation.{Relation}
use Rattle.ccsl_ast.specs.declared.line.Relation.TheVariants as rel
use Rattle.ccsl_ast.specs.declared.definition.Kind.{Kind}
use Rattle.ccsl_ast.specs.declared.definition.Kind.TheVariants as kind
use Rattle.ccsl_ast.specs.declared.definition.Param.{Param}
use Rattle.ccsl_ast.specs.Trees.{Expression, EName, ECall, ENever, EBinary, EDelay, EAwait, EFilter, EDelayed, EIf, Line, LDefine, LConstraint, LCall, SLine}
use Rattle.ccsl_ast.specs.Trees.{SClocks, SLineOf, PlainMember, PlainDefinition, DRelation, DGroup, PlainFile, binop_in, relop_in}
use Rattle.ccsl_grammar.specs.Terminals.{Terminal, word, symbol, name, number, quoted}

-- ( ) + , - ; < = { }
abbrev pub opening : Terminal
opening = symbol 40

abbrev pub closing : Terminal
closing = symbol 41

abbrev pub plus : Terminal
plus = symbol 43

abbrev pub comma : Terminal
comma = symbol 44

abbrev pub dash : Terminal
dash = symbol 45

abbrev pub semicolon : Terminal
semicolon = symbol 59

abbrev pub below : Terminal
below = symbol 60

abbrev pub equals : Terminal
equals = symbol 61

abbrev pub left_brace : Terminal
left_brace = symbol 123

abbrev pub right_brace : Terminal
right_brace = symbol 125

-- ---- the parts in which no expression stands: each is its own derivation

-- [ item { "," item } ]
abbrev pub further_spelled : {C : Type 0} → (C → List Terminal) → C → List Terminal
further_spelled spelled c = comma ∷ spelled c

abbrev pub list_spelled : {C : Type 0} → (C → List Terminal) → List C → List Terminal
list_spelled spelled [] = []
list_spelled spelled (c ∷ cs) = spelled c ++ flat_map (further_spelled spelled) cs

-- prim = NUM | NAME
abbrev pub prim_spelled : Primary → List Terminal
prim_spelled (prim.Num at n) = number at n ∷ []
prim_spelled (prim.Name x) = name x ∷ []

abbrev pub sign_spelled : Sign → Terminal
sign_spelled Plus = plus
sign_spelled Minus = dash

-- term = prim { ( "+" | "-" ) prim }
abbrev pub signed_spelled : Sign × Primary → List Terminal
signed_spelled p = sign_spelled p.0 ∷ prim_spelled p.1

abbrev pub term_spelled : Term → List Terminal
term_spelled t = prim_spelled t.first ++ flat_map signed_spelled t.rest

-- wterm = TEXT | NAME | "tail" NAME
abbrev pub wterm_spelled : WordTerm → List Terminal
wterm_spelled (wterm.Text at bytes) = quoted at bytes ∷ []
wterm_spelled (wterm.Name x) = name x ∷ []
wterm_spelled (wterm.Tail x) = word w.Tail ∷ name x ∷ []

-- test = term "=" term | term "<" term | "head" NAME | "ended" NAME
abbrev pub test_spelled : Test → List Terminal
test_spelled (Equal a b) = term_spelled a ++ equals ∷ term_spelled b
test_spelled (Less a b) = term_spelled a ++ below ∷ term_spelled b
test_spelled (Head x) = word w.Head ∷ name x ∷ []
test_spelled (Ended x) = word w.Ended ∷ name x ∷ []

-- arg = term | TEXT | "tail" NAME
abbrev pub arg_spelled : Argument → List Terminal
arg_spelled (arg.Term t) = term_spelled t
arg_spelled (arg.Text at bytes) = quoted at bytes ∷ []
arg_spelled (arg.Tail x) = word w.Tail ∷ name x ∷ []

-- [ args ], where args = arg { "," arg }
abbrev pub args_spelled : List Argument → List Terminal
args_spelled args = list_spelled arg_spelled args

-- param = ( "clock" | "number" | "word" ) NAME
abbrev pub kind_spelled : Kind → Terminal
kind_spelled kind.Clock = word w.Clock
kind_spelled kind.Number = word w.Number
kind_spelled kind.Word = word w.Word

abbrev pub param_spelled : Param → List Terminal
param_spelled p = kind_spelled p.kind ∷ name p.name ∷ []

-- [ params ], where params = param { "," param }
abbrev pub params_spelled : List Param → List Terminal
params_spelled params = list_spelled param_spelled params

-- relop = "subclock" | "coincides" | "excludes" | "precedes" | "precedes" "weakly"
--       | "precedes" "within" NUM, in version 2
abbrev pub relop_spelled : Relation → List Terminal
relop_spelled rel.Subclock = word w.Subclock ∷ []
relop_spelled rel.Coincides = word w.Coincides ∷ []
relop_spelled rel.Excludes = word w.Excludes ∷ []
relop_spelled rel.Precedes = word w.Precedes ∷ []
relop_spelled rel.PrecedesWeakly = word w.Precedes ∷ word w.Weakly ∷ []
relop_spelled (rel.PrecedesWithin at n) = word w.Precedes ∷ word w.Within ∷ number at n ∷ []

-- binop = "union" | "inter" | "minus" | "inf" | "sup" | "upto" | "then" | "sampled" [ "weakly" ] "on"
--       | "upto" "weakly", in version 2
abbrev pub binop_spelled : BinaryOp → List Terminal
binop_spelled op.Union = word w.Union ∷ []
binop_spelled op.Inter = word w.Inter ∷ []
binop_spelled op.Minus = word w.Minus ∷ []
binop_spelled op.Inf = word w.Inf ∷ []
binop_spelled op.Sup = word w.Sup ∷ []
binop_spelled op.Upto = word w.Upto ∷ []
binop_spelled op.UptoWeakly = word w.Upto ∷ word w.Weakly ∷ []
binop_spelled op.Then = word w.Then ∷ []
binop_spelled op.Sampled = word w.Sampled ∷ word w.On ∷ []
binop_spelled op.SampledWeakly = word w.Sampled ∷ word w.Weakly ∷ word w.On ∷ []

-- ---- expressions

mutual
  -- expr = operand | operand binop operand | operand ( "delay" | "await" ) term | operand "filter" wterm
  --      | operand "delayed" NUM "on" operand | "if" test "use" expr "else" expr
  pub data Expr (two : Bool) : Type 0 where
    alone : Operand two → Expr two
    binary : (op : BinaryOp) → IsTrue (binop_in two op) → Operand two → Operand two → Expr two
    delay : Operand two → Term → Expr two
    await : Operand two → Term → Expr two
    filter : Operand two → WordTerm → Expr two
    delayed : Operand two → ℕ → ℕ → Operand two → Expr two
    choice : Test → Expr two → Expr two → Expr two

  -- operand = NAME | NAME "(" [ args ] ")" | "never" | "(" expr ")"
  pub data Operand (two : Bool) : Type 0 where
    named : Spot → Operand two
    called : Spot → List Argument → Operand two
    never : Operand two
    parens : Expr two → Operand two

abbrev mutual
  pub expr_spelled : {two : Bool} → Expr two → List Terminal
  expr_spelled (alone o) = operand_spelled o
  expr_spelled (binary op v a d) = operand_spelled a ++ (binop_spelled op ++ operand_spelled d)
  expr_spelled (delay a m) = operand_spelled a ++ word w.Delay ∷ term_spelled m
  expr_spelled (await a m) = operand_spelled a ++ word w.Await ∷ term_spelled m
  expr_spelled (filter a m) = operand_spelled a ++ word w.Filter ∷ wterm_spelled m
  expr_spelled (delayed a at n d) = operand_spelled a ++ word w.Delayed ∷ number at n ∷ word w.On ∷ operand_spelled d
  expr_spelled (choice q a d) = word w.If ∷ (test_spelled q ++ word w.Use ∷ (expr_spelled a ++ word w.Else ∷ expr_spelled d))

  pub operand_spelled : {two : Bool} → Operand two → List Terminal
  operand_spelled (named x) = name x ∷ []
  operand_spelled (called x args) = name x ∷ opening ∷ (args_spelled args ++ closing ∷ [])
  operand_spelled never = word w.Never ∷ []
  operand_spelled (parens e) = opening ∷ (expr_spelled e ++ closing ∷ [])

abbrev mutual
  pub expr_tree : {two : Bool} → Expr two → Expression
  expr_tree (alone o) = operand_tree o
  expr_tree (binary op v a d) = EBinary op (operand_tree a) (operand_tree d)
  expr_tree (delay a m) = EDelay (operand_tree a) m
  expr_tree (await a m) = EAwait (operand_tree a) m
  expr_tree (filter a m) = EFilter (operand_tree a) m
  expr_tree (delayed a at n d) = EDelayed (operand_tree a) at n (operand_tree d)
  expr_tree (choice q a d) = EIf q (expr_tree a) (expr_tree d)

  pub operand_tree : {two : Bool} → Operand two → Expression
  operand_tree (named x) = EName x
  operand_tree (called x args) = ECall x args
  operand_tree never = ENever
  operand_tree (parens e) = expr_tree e

-- ---- lines

-- rline = "define" NAME "=" expr ";" | NAME relop NAME ";" | NAME "(" [ args ] ")" ";"
pub data Rline (two : Bool) : Type 0 where
  define : Spot → Expr two → Rline two
  constrain : Spot → (r : Relation) → IsTrue (relop_in two r) → Spot → Rline two
  call : Spot → List Argument → Rline two

abbrev pub rline_spelled : {two : Bool} → Rline two → List Terminal
rline_spelled (define x e) = word w.Define ∷ name x ∷ equals ∷ (expr_spelled e ++ semicolon ∷ [])
rline_spelled (constrain a r v b) = name a ∷ (relop_spelled r ++ name b ∷ semicolon ∷ [])
rline_spelled (call x args) = name x ∷ opening ∷ (args_spelled args ++ closing ∷ semicolon ∷ [])

abbrev pub rline_tree : {two : Bool} → Rline two → Line
rline_tree (define x e) = LDefine x (expr_tree e)
rline_tree (constrain a r v b) = LConstraint a r b
rline_tree (call x args) = LCall x args

-- sline = "clock" NAME { "," NAME } ";" | rline
pub data Sline (two : Bool) : Type 0 where
  clocks : Spot → List Spot → Sline two
  line : Rline two → Sline two

abbrev pub clock_spelled : Spot → List Terminal
clock_spelled x = name x ∷ []

abbrev pub sline_spelled : {two : Bool} → Sline two → List Terminal
sline_spelled (clocks x xs) = word w.Clock ∷ name x ∷ (flat_map (further_spelled clock_spelled) xs ++ semicolon ∷ [])
sline_spelled (line l) = rline_spelled l

abbrev pub sline_tree : {two : Bool} → Sline two → SLine
sline_tree (clocks x xs) = SClocks (x ∷ xs)
sline_tree (line l) = SLineOf (rline_tree l)

-- ---- definitions

-- member = NAME "(" [ params ] ")" "=" expr
pub record Member (two : Bool) : Type 0 where
  pub name : Spot
  pub params : List Param
  pub body : Expr two

abbrev pub member_spelled : {two : Bool} → Member two → List Terminal
member_spelled m = name m.name ∷ opening ∷ (params_spelled m.params ++ closing ∷ equals ∷ expr_spelled m.body)

abbrev pub further_member : {two : Bool} → Member two → List Terminal
further_member m = word w.And ∷ member_spelled m

abbrev pub member_tree : {two : Bool} → Member two → PlainMember
member_tree m = record { name = m.name; params = m.params; body = expr_tree m.body }

-- relation = "relation" NAME "(" [ params ] ")" "{" rline { rline } "}"
-- group = "expression" member { "and" member } ";"
pub data Definition (two : Bool) : Type 0 where
  relation : Spot → List Param → Rline two → List (Rline two) → Definition two
  group : Member two → List (Member two) → Definition two

abbrev pub definition_spelled : {two : Bool} → Definition two → List Terminal
definition_spelled (relation x params l ls) =
    word w.Relation ∷ name x ∷ opening
    ∷ (params_spelled params ++ closing ∷ left_brace ∷ (rline_spelled l ++ (flat_map rline_spelled ls ++ right_brace ∷ [])))
definition_spelled (group m ms) = word w.Expression ∷ (member_spelled m ++ (flat_map further_member ms ++ semicolon ∷ []))

abbrev pub definition_tree : {two : Bool} → Definition two → PlainDefinition
definition_tree (relation x params l ls) = DRelation x params (rline_tree l ∷ map rline_tree ls)
definition_tree (group m ms) = DGroup (member_tree m ∷ map member_tree ms)

-- ---- files

-- file = "ccsl" NUM ";" { relation | group } system, where the value of NUM, the version, is 1 or 2
-- system = "system" "{" { sline } "}"
pub record Derivation : Type 0 where
  pub at : ℕ  -- the place of NUM
  pub two : Bool
  pub definitions : List (Definition two)
  pub lines : List (Sline two)

abbrev pub version : Bool → ℕ
version two = if two then 2 else 1

abbrev pub system_spelled : {two : Bool} → List (Sline two) → List Terminal
system_spelled ls = word w.System ∷ left_brace ∷ (flat_map sline_spelled ls ++ right_brace ∷ [])

abbrev pub file_spelled : Derivation → List Terminal
file_spelled d =
    word w.Ccsl ∷ number d.at (version d.two) ∷ semicolon
    ∷ (flat_map definition_spelled d.definitions ++ system_spelled d.lines)

abbrev pub file_tree : Derivation → PlainFile
file_tree d = record {
  version = version d.two;
  definitions = map definition_tree d.definitions;
  lines = map sline_tree d.lines;
}
