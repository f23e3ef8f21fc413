-- What a file keeps: its version is 1 or 2, and only in version 2 has it the forms of version 2; its names are names of the
-- grammar, its quoted texts can stand between quotes, its numbers are at most the greatest, and no list is empty that the
-- grammar wants a member of.
--     two    whether the version is 2
use Rattle.std.specs.Prelude.{ℕ, Bool, true, false, ◌&&◌, ◌||◌, List, [], ◌∷◌, nat_eq, nat_le}
use Rattle.std.specs.List.{list_all}
use Rattle.ccsl_base.specs.declared.limits.TheConstants.{MAX_NUMBER}
use Rattle.ccsl_base.specs.Name.{is_name}
use Rattle.ccsl_base.specs.Quoted.{is_quotable}
use Rattle.ccsl_ast.specs.declared.spot.Spot.{Spot}
use Rattle.ccsl_ast.specs.declared.term.Primary.{Primary}
use Rattle.ccsl_ast.specs.declared.term.Primary.TheVariants as primary
use Rattle.ccsl_ast.specs.declared.term.Sign.{Sign}
use Rattle.ccsl_ast.specs.declared.term.Term.{Term}
use Rattle.ccsl_ast.specs.declared.term.WordTerm.{WordTerm}
use Rattle.ccsl_ast.specs.declared.term.WordTerm.TheVariants as word
use Rattle.ccsl_ast.specs.declared.term.Test.{Test}
use Rattle.ccsl_ast.specs.declared.term.Test.TheVariants.{Equal, Less, Head, Ended}
use Rattle.ccsl_ast.specs.declared.term.Argument.{Argument}
use Rattle.ccsl_ast.specs.declared.term.Argument.TheVariants as argument
use Rattle.ccsl_ast.specs.declared.line.Relation.{Relation}
use Rattle.ccsl_ast.specs.declared.line.Relation.TheVariants.{PrecedesWithin}
use Rattle.ccsl_ast.specs.declared.definition.Param.{Param}
use Rattle.ccsl_ast.specs.Trees.{Expression, EName, ECall, ENever, EBinary, EDelay, EAwait, EFilter, EDelayed, EIf, Line, LDefine, LConstraint, LCall, SLine}
use Rattle.ccsl_ast.specs.Trees.{SClocks, SLineOf, PlainMember, PlainDefinition, DRelation, DGroup, PlainFile, binop_in, relop_in}

-- whether a list has a member
abbrev pub has_member : {A : Type 0} → List A → Bool
has_member [] = false
has_member (x ∷ xs) = true

abbrev pub text_kept : List ℕ → Bool
text_kept bytes = list_all is_quotable bytes

abbrev pub spot_kept : Spot → Bool
spot_kept x = is_name x.name

abbrev pub number_kept : ℕ → Bool
number_kept n = nat_le n MAX_NUMBER

abbrev pub prim_kept : Primary → Bool
prim_kept (primary.Num at n) = number_kept n
prim_kept (primary.Name x) = spot_kept x

abbrev pub signed_kept : Sign × Primary → Bool
signed_kept s = prim_kept s.1

abbrev pub term_kept : Term → Bool
term_kept t = prim_kept t.first && list_all signed_kept t.rest

abbrev pub wterm_kept : WordTerm → Bool
wterm_kept (word.Text at bytes) = text_kept bytes
wterm_kept (word.Name x) = spot_kept x
wterm_kept (word.Tail x) = spot_kept x

abbrev pub test_kept : Test → Bool
test_kept (Equal m n) = term_kept m && term_kept n
test_kept (Less m n) = term_kept m && term_kept n
test_kept (Head x) = spot_kept x
test_kept (Ended x) = spot_kept x

abbrev pub arg_kept : Argument → Bool
arg_kept (argument.Term t) = term_kept t
arg_kept (argument.Text at bytes) = text_kept bytes
arg_kept (argument.Tail x) = spot_kept x

abbrev pub expression_kept : Bool → Expression → Bool
expression_kept two (EName x) = spot_kept x
expression_kept two (ECall x args) = spot_kept x && list_all arg_kept args
expression_kept two ENever = true
expression_kept two (EBinary op a d) =
    binop_in two op && (expression_kept two a && expression_kept two d)
expression_kept two (EDelay a m) = expression_kept two a && term_kept m
expression_kept two (EAwait a m) = expression_kept two a && term_kept m
expression_kept two (EFilter a w) = expression_kept two a && wterm_kept w
expression_kept two (EDelayed a at m d) =
    expression_kept two a && (number_kept m && expression_kept two d)
expression_kept two (EIf q a d) = test_kept q && (expression_kept two a && expression_kept two d)

abbrev pub relop_kept : Relation → Bool
relop_kept (PrecedesWithin at m) = number_kept m
relop_kept _ = true

abbrev pub rline_kept : Bool → Line → Bool
rline_kept two (LDefine x e) = spot_kept x && expression_kept two e
rline_kept two (LConstraint a r b) = spot_kept a && (relop_in two r && (relop_kept r && spot_kept b))
rline_kept two (LCall x args) = spot_kept x && list_all arg_kept args

-- a clock line has a clock
abbrev pub sline_kept : Bool → SLine → Bool
sline_kept two (SClocks xs) = has_member xs && list_all spot_kept xs
sline_kept two (SLineOf l) = rline_kept two l

abbrev pub param_kept : Param → Bool
param_kept p = spot_kept p.name

abbrev pub member_kept : Bool → PlainMember → Bool
member_kept two m = spot_kept m.name && (list_all param_kept m.params && expression_kept two m.body)

-- a relation has a line, and a group a member
abbrev pub definition_kept : Bool → PlainDefinition → Bool
definition_kept two (DRelation x params lines) =
    spot_kept x && (list_all param_kept params && (has_member lines && list_all (rline_kept two) lines))
definition_kept two (DGroup members) = has_member members && list_all (member_kept two) members

abbrev pub is_two : PlainFile → Bool
is_two f = nat_eq f.version 2

abbrev pub file_kept : PlainFile → Bool
file_kept f =
    (nat_eq f.version 1 || is_two f)
    && (list_all (definition_kept (is_two f)) f.definitions && list_all (sline_kept (is_two f)) f.lines)
