-- The grammar read from the left, production by production, with the first fault.
--     two     whether the version is 2
--     room    how many levels are left
use Rattle.std.specs.Prelude.{ℕ, zero, suc, Bool, true, false, cond, List, [], ◌∷◌, Option, Some, None, is_some, ◌||◌, not, nat_eq, ◌&&◌}
use Rattle.ccsl_base.specs.declared.reserved.Reserved.{Reserved}
use Rattle.ccsl_base.specs.declared.reserved.Reserved.TheVariants as w
use Rattle.ccsl_ast.specs.declared.spot.Spot.{Spot}
use Rattle.ccsl_ast.specs.declared.term.Sign.{Sign}
use Rattle.ccsl_ast.specs.declared.term.Sign.TheVariants.{Plus, Minus}
use Rattle.ccsl_ast.specs.declared.term.Primary.{Primary}
use Rattle.ccsl_ast.specs.declared.term.Primary.TheVariants as prim
use Rattle.ccsl_ast.specs.declared.term.Term.{Term}
use Rattle.ccsl_ast.specs.declared.term.WordTerm.{WordTerm}
use Rattle.ccsl_ast.specs.declared.term.WordTerm.TheVariants as wterm
use Rattle.ccsl_ast.specs.declared.term.Test.{Test}
use Rattle.ccsl_ast.specs.declared.term.Test.TheVariants.{Equal, Less, Head, Ended}
use Rattle.ccsl_ast.specs.declared.term.Argument.{Argument}
use Rattle.ccsl_ast.specs.declared.term.Argument.TheVariants as arg
use Rattle.ccsl_ast.specs.declared.tree.BinaryOp.{BinaryOp}
use Rattle.ccsl_ast.specs.declared.tree.BinaryOp.TheVariants as op
use Rattle.ccsl_ast.specs.declared.line.Relation.{Relation}
use Rattle.ccsl_ast.specs.declared.line.Relation.TheVariants as rel
use Rattle.ccsl_ast.specs.declared.definition.Kind.{Kind}
use Rattle.ccsl_ast.specs.declared.definition.Kind.TheVariants as kind
use Rattle.ccsl_ast.specs.declared.definition.Param.{Param}
use Rattle.ccsl_ast.specs.Trees.{Expression, EName, ECall, ENever, EBinary, EDelay, EAwait, EFilter, EDelayed, EIf, Line, LDefine, LConstraint, LCall, SLine}
use Rattle.ccsl_ast.specs.Trees.{SClocks, SLineOf, PlainMember, PlainDefinition, DRelation, DGroup, PlainFile}
use Rattle.ccsl_grammar.specs.Terminals.{Terminal, word, symbol, name, number, quoted}
use Rattle.ccsl_grammar.specs.Kinds.{is_word, is_symbol, is_name, is_quoted}
use Rattle.ccsl_grammar.specs.Grammar.{version}
use Rattle.ccsl_grammar.specs.Reader.{no_syntax, too_deep, took, stopped, Reader, ◌>>=◌, ◌>>◌, given, accept, choose, many}

-- ---- one terminal

abbrev pub passed : Bool → Option Bool
passed true = Some true
passed false = None

unfoldable pub word_at : Reserved → Reader Bool
word_at w = accept (λ t. passed (is_word w t))

unfoldable pub symbol_at : ℕ → Reader Bool
symbol_at b = accept (λ t. passed (is_symbol b t))

abbrev pub name_of : Terminal → Option Spot
name_of (name x) = Some x
name_of _ = None

unfoldable pub name_at : Reader Spot
name_at = accept name_of

-- a number's place and value
abbrev pub num_of : Terminal → Option (ℕ × ℕ)
num_of (number at n) = Some (at, n)
num_of _ = None

unfoldable pub num_at : Reader (ℕ × ℕ)
num_at = accept num_of

-- a quoted text's place and bytes
abbrev pub quoted_of : Terminal → Option (ℕ × List ℕ)
quoted_of (quoted at bytes) = Some (at, bytes)
quoted_of _ = None

unfoldable pub quoted_at : Reader (ℕ × List ℕ)
quoted_at = accept quoted_of

-- ---- the parts in which no expression stands

-- what follows a comma
unfoldable pub further_at : {A : Type 0} → Reader A → Reader A
further_at item = do
  symbol_at 44
  item

-- a list with commas that may be empty, and the parenthesis behind it
unfoldable pub list_at : {A : Type 0} → Reader A → Reader (List A)
list_at item = choose (is_symbol 41) (do symbol_at 41; given []) (do
  v ← item
  vs ← many (is_symbol 44) (further_at item)
  symbol_at 41
  given (v ∷ vs))

abbrev pub prim_of : Terminal → Option Primary
prim_of (name x) = Some (prim.Name x)
prim_of (number at n) = Some (prim.Num at n)
prim_of _ = None

unfoldable pub prim_at : Reader Primary
prim_at = accept prim_of

abbrev pub sign_of : Terminal → Option Sign
sign_of (symbol b) = cond (is_symbol 43 (symbol b)) (Some Plus) (cond (is_symbol 45 (symbol b)) (Some Minus) None)
sign_of _ = None

unfoldable pub sign_at : Reader Sign
sign_at = accept sign_of

abbrev pub is_sign : Terminal → Bool
is_sign t = is_symbol 43 t || is_symbol 45 t

unfoldable pub signed_at : Reader (Sign × Primary)
signed_at = do
  s ← sign_at
  p ← prim_at
  given (s, p)

unfoldable pub term_at : Reader Term
term_at = do
  p ← prim_at
  ps ← many is_sign signed_at
  given (record { first = p; rest = ps })

unfoldable pub wterm_at : Reader WordTerm
wterm_at =
    choose is_name (do x ← name_at; given (wterm.Name x))
    (choose (is_word w.Tail) (do word_at w.Tail; x ← name_at; given (wterm.Tail x))
    (do q ← quoted_at; given (wterm.Text q.0 q.1)))

-- what stands behind a test's first term
unfoldable pub comparison_at : Term → Reader Test
comparison_at a = choose (is_symbol 61) (do symbol_at 61; b ← term_at; given (Equal a b)) (do symbol_at 60; b ← term_at; given (Less a b))

unfoldable pub test_at : Reader Test
test_at =
    choose (is_word w.Head) (do word_at w.Head; x ← name_at; given (Head x))
    (choose (is_word w.Ended) (do word_at w.Ended; x ← name_at; given (Ended x))
    (do a ← term_at; comparison_at a))

unfoldable pub arg_at : Reader Argument
arg_at =
    choose is_quoted (do q ← quoted_at; given (arg.Text q.0 q.1))
    (choose (is_word w.Tail) (do word_at w.Tail; x ← name_at; given (arg.Tail x))
    (do t ← term_at; given (arg.Term t)))

abbrev pub kind_of : Terminal → Option Kind
kind_of (word w.Clock) = Some kind.Clock
kind_of (word w.Number) = Some kind.Number
kind_of (word w.Word) = Some kind.Word
kind_of _ = None

unfoldable pub kind_at : Reader Kind
kind_at = accept kind_of

unfoldable pub param_at : Reader Param
param_at = do
  k ← kind_at
  x ← name_at
  given (record { kind = k; name = x })

-- the relations of one word that no other begins
abbrev pub relop_of : Terminal → Option Relation
relop_of (word w.Subclock) = Some rel.Subclock
relop_of (word w.Coincides) = Some rel.Coincides
relop_of (word w.Excludes) = Some rel.Excludes
relop_of _ = None

-- a word that goes on a form of version 2
abbrev pub goes_on_by : Bool → Reserved → Terminal → Bool
goes_on_by two v t = is_word v t && two

unfoldable pub within_at : Reader Relation
within_at = do
  n ← num_at
  given (rel.PrecedesWithin n.0 n.1)

unfoldable pub precedes_at : Bool → Reader Relation
precedes_at two =
    choose (is_word w.Weakly) (do word_at w.Weakly; given rel.PrecedesWeakly)
    (choose (goes_on_by two w.Within) (do word_at w.Within; within_at) (given rel.Precedes))

unfoldable pub relop_at : Bool → Reader Relation
relop_at two = choose (is_word w.Precedes) (do word_at w.Precedes; precedes_at two) (accept relop_of)

-- the operators of one word that no other begins
abbrev pub binop_of : Terminal → Option BinaryOp
binop_of (word w.Union) = Some op.Union
binop_of (word w.Inter) = Some op.Inter
binop_of (word w.Minus) = Some op.Minus
binop_of (word w.Inf) = Some op.Inf
binop_of (word w.Sup) = Some op.Sup
binop_of (word w.Then) = Some op.Then
binop_of _ = None

unfoldable pub sampled_at : Reader BinaryOp
sampled_at =
    choose (is_word w.Weakly) (do word_at w.Weakly; word_at w.On; given op.SampledWeakly) (do word_at w.On; given op.Sampled)

unfoldable pub upto_at : Bool → Reader BinaryOp
upto_at two =
    choose (goes_on_by two w.Weakly) (do word_at w.Weakly; given op.UptoWeakly) (given op.Upto)

unfoldable pub binop_at : Bool → Reader BinaryOp
binop_at two =
    choose (is_word w.Sampled) (do word_at w.Sampled; sampled_at)
    (choose (is_word w.Upto) (do word_at w.Upto; upto_at two)
    (accept binop_of))

abbrev pub is_binop : Terminal → Bool
is_binop t = is_word w.Sampled t || is_word w.Upto t || is_some (binop_of t)

-- ---- expressions

-- what stands behind an operand and a word, where that is no second operand

unfoldable pub delay_at : Expression → Reader Expression
delay_at a = do
  m ← term_at
  given (EDelay a m)

unfoldable pub await_at : Expression → Reader Expression
await_at a = do
  m ← term_at
  given (EAwait a m)

unfoldable pub filter_at : Expression → Reader Expression
filter_at a = do
  m ← wterm_at
  given (EFilter a m)

-- what stands behind an operand's name
unfoldable pub named_at : Spot → Reader Expression
named_at x = choose (is_symbol 40) (do symbol_at 40; args ← list_at arg_at; given (ECall x args)) (given (EName x))

module _ (inner : Reader Expression) where
  unfoldable pub parens_at : Reader Expression
  parens_at = do
    symbol_at 40
    e ← inner
    symbol_at 41
    given e

  unfoldable pub operand_at : Reader Expression
  operand_at =
      choose is_name (do x ← name_at; named_at x)
      (choose (is_word w.Never) (do word_at w.Never; given ENever) parens_at)

  unfoldable pub second_at : BinaryOp → Expression → Reader Expression
  second_at op a = do
    d ← operand_at
    given (EBinary op a d)

  unfoldable pub binary_at : Bool → Expression → Reader Expression
  binary_at two a = do
    op ← binop_at two
    second_at op a

  unfoldable pub delayed_at : Expression → Reader Expression
  delayed_at a = do
    n ← num_at
    word_at w.On
    d ← operand_at
    given (EDelayed a n.0 n.1 d)

  -- what stands behind the first operand
  unfoldable pub rest_at : Bool → Expression → Reader Expression
  rest_at two a =
      choose is_binop (binary_at two a)
      (choose (is_word w.Delay) (do word_at w.Delay; delay_at a)
      (choose (is_word w.Await) (do word_at w.Await; await_at a)
      (choose (is_word w.Filter) (do word_at w.Filter; filter_at a)
      (choose (is_word w.Delayed) (do word_at w.Delayed; delayed_at a)
      (given a)))))

  -- what stands behind the test of an if
  unfoldable pub branches_at : Test → Reader Expression
  branches_at q = do
    word_at w.Use
    a ← inner
    word_at w.Else
    d ← inner
    given (EIf q a d)

  unfoldable pub choice_at : Reader Expression
  choice_at = do
    q ← test_at
    branches_at q

  unfoldable pub expr_with : Bool → Reader Expression
  expr_with two = choose (is_word w.If) (do word_at w.If; choice_at) (do a ← operand_at; rest_at two a)

abbrev pub is_expr : Terminal → Bool
is_expr t = is_name t || is_word w.Never t || is_symbol 40 t || is_word w.If t

-- an expression for which there is no level left
unfoldable pub no_room : Reader Expression
no_room = choose is_expr (stopped too_deep) (stopped no_syntax)

unfoldable pub expr_at : Bool → ℕ → Reader Expression
expr_at two zero = no_room
expr_at two (suc room) = expr_with (expr_at two room) two

-- ---- lines

unfoldable pub define_at : Bool → ℕ → Reader Line
define_at two room = do
  x ← name_at
  symbol_at 61
  e ← expr_at two room
  symbol_at 59
  given (LDefine x e)

unfoldable pub call_at : Spot → Reader Line
call_at x = do
  args ← list_at arg_at
  symbol_at 59
  given (LCall x args)

unfoldable pub constraint_at : Bool → Spot → Reader Line
constraint_at two a = do
  r ← relop_at two
  b ← name_at
  symbol_at 59
  given (LConstraint a r b)

unfoldable pub rline_at : Bool → ℕ → Reader Line
rline_at two room = choose (is_word w.Define) (do word_at w.Define; define_at two room) (do
  x ← name_at
  choose (is_symbol 40) (do symbol_at 40; call_at x) (constraint_at two x))

unfoldable pub clocks_at : Reader SLine
clocks_at = do
  x ← name_at
  xs ← many (is_symbol 44) (further_at name_at)
  symbol_at 59
  given (SClocks (x ∷ xs))

unfoldable pub sline_at : Bool → ℕ → Reader SLine
sline_at two room = choose (is_word w.Clock) (do word_at w.Clock; clocks_at) (do l ← rline_at two room; given (SLineOf l))

abbrev pub no_brace : Terminal → Bool
no_brace t = not (is_symbol 125 t)

-- ---- definitions

unfoldable pub relation_at : Bool → ℕ → Reader PlainDefinition
relation_at two room = do
  x ← name_at
  symbol_at 40
  params ← list_at param_at
  symbol_at 123
  l ← rline_at two room
  ls ← many no_brace (rline_at two room)
  symbol_at 125
  given (DRelation x params (l ∷ ls))

unfoldable pub member_at : Bool → ℕ → Reader PlainMember
member_at two room = do
  x ← name_at
  symbol_at 40
  params ← list_at param_at
  symbol_at 61
  e ← expr_at two room
  given (record { name = x; params = params; body = e })

unfoldable pub further_member_at : Bool → ℕ → Reader PlainMember
further_member_at two room = do
  word_at w.And
  member_at two room

unfoldable pub group_at : Bool → ℕ → Reader PlainDefinition
group_at two room = do
  m ← member_at two room
  ms ← many (is_word w.And) (further_member_at two room)
  symbol_at 59
  given (DGroup (m ∷ ms))

unfoldable pub definition_at : Bool → ℕ → Reader PlainDefinition
definition_at two room = choose (is_word w.Relation) (do word_at w.Relation; relation_at two room) (do word_at w.Expression; group_at two room)

abbrev pub is_definition : Terminal → Bool
is_definition t = is_word w.Relation t || is_word w.Expression t

-- ---- files

-- which of the versions a number is
abbrev pub version_of : Terminal → Option Bool
version_of (number at n) = cond (nat_eq n 1) (Some false) (cond (nat_eq n 2) (Some true) None)
version_of _ = None

unfoldable pub version_at : Reader Bool
version_at = do
  word_at w.Ccsl
  two ← accept version_of
  symbol_at 59
  given two

unfoldable pub system_at : Bool → ℕ → Reader (List SLine)
system_at two room = do
  word_at w.System
  symbol_at 123
  ls ← many no_brace (sline_at two room)
  symbol_at 125
  given ls

-- nothing may follow
abbrev pub ends : {A : Type 0} → A → Reader A
ends v [] = took v []
ends v (t ∷ ts) = stopped no_syntax (t ∷ ts)

unfoldable pub file_at : ℕ → Reader PlainFile
file_at room = do
  two ← version_at
  ds ← many is_definition (definition_at two room)
  ls ← system_at two room
  ends (record { version = version two; definitions = ds; lines = ls })
