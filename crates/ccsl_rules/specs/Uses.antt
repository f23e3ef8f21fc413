-- The faults of each use of a name, a number or a text.
use Rattle.std.specs.Prelude.{ℕ, suc, List, [], ◌++◌, length, Bool, true, false, not, ◌&&◌, ◌||◌, Option, Some, None, is_none, flat_map, zip, nat_lt, nat_eq}
use Rattle.ccsl_base.specs.declared.limits.TheConstants.{MAX_CALL_LEVELS, MAX_DELAY}
use Rattle.ccsl_ast.specs.declared.spot.Spot.{Spot}
use Rattle.ccsl_ast.specs.declared.definition.Param.{Param}
use Rattle.ccsl_ast.specs.declared.definition.Kind.{Kind}
use Rattle.ccsl_ast.specs.declared.definition.Kind.TheVariants as kind
use Rattle.ccsl_ast.specs.declared.term.Sign.{Sign}
use Rattle.ccsl_ast.specs.declared.term.Primary.{Primary}
use Rattle.ccsl_ast.specs.declared.term.Primary.TheVariants as prim
use Rattle.ccsl_ast.specs.declared.term.Term.{Term}
use Rattle.ccsl_ast.specs.declared.term.WordTerm.{WordTerm}
use Rattle.ccsl_ast.specs.declared.term.WordTerm.TheVariants as word
use Rattle.ccsl_ast.specs.declared.term.Test.{Test}
use Rattle.ccsl_ast.specs.declared.term.Test.TheVariants as test
use Rattle.ccsl_ast.specs.declared.term.Argument.{Argument}
use Rattle.ccsl_ast.specs.declared.term.Argument.TheVariants as arg
use Rattle.ccsl_ast.specs.declared.tree.BinaryOp.{BinaryOp}
use Rattle.ccsl_ast.specs.declared.tree.BinaryOp.TheVariants as op
use Rattle.ccsl_ast.specs.Trees.{Expression, EName, ECall, ENever, EBinary, EDelay, EAwait, EFilter, EDelayed, EIf}
use Rattle.ccsl_kernel.specs.declared.position.Position.{Position}
use Rattle.ccsl_kernel.specs.declared.position.Position.TheVariants.{Inner, Guarded}
use Rattle.ccsl_kernel.specs.Positions.{guarded}
use Rattle.ccsl_words.specs.Spelling.{read_word}
use Rattle.ccsl_rules.specs.Faults.{Fault, where_so, Unknown, Later, WrongKind, Unguarded, TooTall, Arguments, BadWord}
use Rattle.ccsl_rules.specs.Spaces.{Known, Callee, Role, relation, member, look}
use Rattle.ccsl_rules.specs.Levels.{level_in}

-- where a use stands: the space of its body and the number of the line, the space of relations and expressions, the number of the
-- definition (for the system the number of all definitions), and the levels that count for its calls
pub record Scene : Type 0 where
  pub locals : List (Known Kind)
  pub line : ℕ
  pub calls : List (Known Callee)
  pub home : ℕ
  pub levels : List ℕ

abbrev pub same_kind : Kind → Kind → Bool
same_kind kind.Clock kind.Clock = true
same_kind kind.Number kind.Number = true
same_kind kind.Word kind.Word = true
same_kind _ _ = false

-- a name that stands for a clock, a number or a word, whatever it is
abbrev pub used : Scene → Spot → List Fault
used S s = elim (look s.name S.locals) [
  | None ↦ where_so true Unknown s.at
  | Some k ↦ where_so (nat_lt S.line k.since) Later s.at
]

abbrev pub kind_of : Scene → Spot → Option Kind
kind_of S s = elim (look s.name S.locals) [ None ↦ None | Some k ↦ Some k.what ]

abbrev pub has_other_kind : Option Kind → Kind → Bool
has_other_kind None wanted = false
has_other_kind (Some k) wanted = not (same_kind k wanted)

-- a name where a clock, a number or a word is needed
abbrev pub used_as : Scene → Kind → Spot → List Fault
used_as S wanted s = used S s ++ where_so (has_other_kind (kind_of S s) wanted) WrongKind s.at

abbrev pub prim_faults : Scene → Primary → List Fault
prim_faults S (prim.Num at n) = []
prim_faults S (prim.Name s) = used_as S kind.Number s

abbrev pub term_faults : Scene → Term → List Fault
term_faults S t = prim_faults S t.first ++ flat_map (λ p. prim_faults S p.1) t.rest

abbrev pub text_faults : ℕ → List ℕ → List Fault
text_faults at text = where_so (is_none (read_word text)) BadWord at

abbrev pub word_faults : Scene → WordTerm → List Fault
word_faults S (word.Text at text) = text_faults at text
word_faults S (word.Name s) = used_as S kind.Word s
word_faults S (word.Tail s) = used_as S kind.Word s

abbrev pub test_faults : Scene → Test → List Fault
test_faults S (test.Equal t u) = term_faults S t ++ term_faults S u
test_faults S (test.Less t u) = term_faults S t ++ term_faults S u
test_faults S (test.Head s) = used_as S kind.Word s
test_faults S (test.Ended s) = used_as S kind.Word s

-- ARGUMENTS. A term that is a single name may be a clock, a number or a word; every other term is a number.
abbrev pub single_of : Primary → List (Sign × Primary) → Option Spot
single_of (prim.Name s) [] = Some s
single_of _ _ = None

abbrev pub single : Term → Option Spot
single t = single_of t.first t.rest

abbrev pub prim_at : Primary → ℕ
prim_at (prim.Num at n) = at
prim_at (prim.Name s) = s.at

-- the place of an argument's first token other than `tail`
abbrev pub argument_at : Argument → ℕ
argument_at (arg.Term t) = prim_at t.first
argument_at (arg.Text at text) = at
argument_at (arg.Tail s) = s.at

abbrev pub argument_faults : Scene → Argument → List Fault
argument_faults S (arg.Term t) = elim (single t) [ None ↦ term_faults S t | Some s ↦ used S s ]
argument_faults S (arg.Text at text) = text_faults at text
argument_faults S (arg.Tail s) = used_as S kind.Word s

abbrev pub argument_kind : Scene → Argument → Option Kind
argument_kind S (arg.Term t) = elim (single t) [ None ↦ Some kind.Number | Some s ↦ kind_of S s ]
argument_kind S (arg.Text at text) = Some kind.Word
argument_kind S (arg.Tail s) = Some kind.Word

abbrev pub mismatch : Scene → Param → Argument → List Fault
mismatch S p a = where_so (has_other_kind (argument_kind S a) p.kind) WrongKind (argument_at a)

-- CALLS
abbrev pub has_role : Role → Bool → Bool
has_role relation wants_relation = wants_relation
has_role (member group number) wants_relation = not wants_relation

-- the group in which the call stands
abbrev pub is_own : Scene → Callee → Bool
is_own S c = has_role c.role false && nat_eq c.block S.home

abbrev pub is_guarded : Position → Bool
is_guarded Guarded = true
is_guarded _ = false

abbrev pub callee_faults : Scene → Bool → Position → Spot → List Argument → Known Callee → List Fault
callee_faults S wants_relation p s args k =
    where_so (not (is_own S k.what) && nat_lt S.home k.since) Later s.at
    ++ where_so (not (has_role k.what.role wants_relation)) WrongKind s.at
    ++ where_so (is_own S k.what && not (is_guarded p)) Unguarded s.at
    ++ where_so (nat_lt MAX_CALL_LEVELS (suc (level_in S.calls S.levels s.name))) TooTall s.at
    ++ where_so (not (nat_eq (length args) (length k.what.params))) Arguments s.at
    ++ flat_map (λ a. mismatch S a.0 a.1) (zip k.what.params args)

abbrev pub call_faults : Scene → Bool → Position → Spot → List Argument → List Fault
call_faults S wants_relation p s args =
    elim (look s.name S.calls) [
      | None ↦ where_so true Unknown s.at
      | Some k ↦ callee_faults S wants_relation p s args k
    ]
    ++ flat_map (argument_faults S) args

-- EXPRESSIONS, at a position
abbrev pub right_of : BinaryOp → Position → Position
right_of op.Then p = guarded p
right_of _ p = Inner

abbrev pub expr_faults : Scene → Position → Expression → List Fault
expr_faults S p (EName s) = used_as S kind.Clock s
expr_faults S p (ECall s args) = call_faults S false p s args
expr_faults S p ENever = []
expr_faults S p (EBinary op a d) = expr_faults S Inner a ++ expr_faults S (right_of op p) d
expr_faults S p (EDelay a m) = expr_faults S Inner a ++ term_faults S m
expr_faults S p (EAwait a m) = expr_faults S Inner a ++ term_faults S m
expr_faults S p (EFilter a w) = expr_faults S Inner a ++ word_faults S w
expr_faults S p (EDelayed a at m d) =
    expr_faults S Inner a ++ where_so (nat_lt m 1 || nat_lt MAX_DELAY m) Arguments at ++ expr_faults S Inner d
expr_faults S p (EIf q a d) = test_faults S q ++ expr_faults S p a ++ expr_faults S p d
