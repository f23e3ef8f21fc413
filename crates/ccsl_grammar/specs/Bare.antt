-- Terminals and trees without places.
use Rattle.std.specs.Prelude.{List, map}
use Rattle.ccsl_ast.specs.declared.spot.Spot.{Spot}
use Rattle.ccsl_ast.specs.declared.term.Sign.{Sign}
use Rattle.ccsl_ast.specs.declared.term.Primary.{Primary}
use Rattle.ccsl_ast.specs.declared.term.Primary.TheVariants as prim
use Rattle.ccsl_ast.specs.declared.term.Term.{Term}
use Rattle.ccsl_ast.specs.declared.term.WordTerm.{WordTerm}
use Rattle.ccsl_ast.specs.declared.term.WordTerm.TheVariants as wterm
use Rattle.ccsl_ast.specs.declared.term.Test.{Test}
use Rattle.ccsl_ast.specs.declared.term.Test.TheVariants.{Equal, Less, Head, Ended}
use Rattle.ccsl_ast.specs.declared.term.Argument.{Argument}
use Rattle.ccsl_ast.specs.declared.term.Argument.TheVariants as arg
use Rattle.ccsl_ast.specs.declared.line.Relation.{Relation}
use Rattle.ccsl_ast.specs.declared.line.Relation.TheVariants.{PrecedesWithin}
use Rattle.ccsl_ast.specs.declared.definition.Param.{Param}
use Rattle.ccsl_ast.specs.Trees.{Expression, EName, ECall, ENever, EBinary, EDelay, EAwait, EFilter, EDelayed, EIf, Line, LDefine, LConstraint, LCall, SLine}
use Rattle.ccsl_ast.specs.Trees.{SClocks, SLineOf, PlainMember, PlainDefinition, DRelation, DGroup, PlainFile}
use Rattle.ccsl_grammar.specs.Terminals.{Terminal, word, symbol, name, number, quoted}

abbrev pub bare_spot : Spot → Spot
bare_spot x = record { at = 0; name = x.name }

abbrev pub bare : Terminal → Terminal
bare (word w) = word w
bare (symbol b) = symbol b
bare (name x) = name (bare_spot x)
bare (number at n) = number 0 n
bare (quoted at bytes) = quoted 0 bytes

abbrev pub bares : List Terminal → List Terminal
bares ts = map bare ts

abbrev pub bare_prim : Primary → Primary
bare_prim (prim.Num at n) = prim.Num 0 n
bare_prim (prim.Name x) = prim.Name (bare_spot x)

abbrev pub bare_signed : Sign × Primary → Sign × Primary
bare_signed s = (s.0, bare_prim s.1)

abbrev pub bare_term : Term → Term
bare_term t = record { first = bare_prim t.first; rest = map bare_signed t.rest }

abbrev pub bare_wterm : WordTerm → WordTerm
bare_wterm (wterm.Text at bytes) = wterm.Text 0 bytes
bare_wterm (wterm.Name x) = wterm.Name (bare_spot x)
bare_wterm (wterm.Tail x) = wterm.Tail (bare_spot x)

abbrev pub bare_test : Test → Test
bare_test (Equal a b) = Equal (bare_term a) (bare_term b)
bare_test (Less a b) = Less (bare_term a) (bare_term b)
bare_test (Head x) = Head (bare_spot x)
bare_test (Ended x) = Ended (bare_spot x)

abbrev pub bare_arg : Argument → Argument
bare_arg (arg.Term t) = arg.Term (bare_term t)
bare_arg (arg.Text at bytes) = arg.Text 0 bytes
bare_arg (arg.Tail x) = arg.Tail (bare_spot x)

abbrev pub bare_param : Param → Param
bare_param p = record { kind = p.kind; name = bare_spot p.name }

abbrev pub bare_expression : Expression → Expression
bare_expression (EName x) = EName (bare_spot x)
bare_expression (ECall x args) = ECall (bare_spot x) (map bare_arg args)
bare_expression ENever = ENever
bare_expression (EBinary op a d) = EBinary op (bare_expression a) (bare_expression d)
bare_expression (EDelay a m) = EDelay (bare_expression a) (bare_term m)
bare_expression (EAwait a m) = EAwait (bare_expression a) (bare_term m)
bare_expression (EFilter a m) = EFilter (bare_expression a) (bare_wterm m)
bare_expression (EDelayed a at n d) = EDelayed (bare_expression a) 0 n (bare_expression d)
bare_expression (EIf q a d) = EIf (bare_test q) (bare_expression a) (bare_expression d)

abbrev pub bare_relop : Relation → Relation
bare_relop (PrecedesWithin at n) = PrecedesWithin 0 n
bare_relop r = r

abbrev pub bare_line : Line → Line
bare_line (LDefine x e) = LDefine (bare_spot x) (bare_expression e)
bare_line (LConstraint a r b) = LConstraint (bare_spot a) (bare_relop r) (bare_spot b)
bare_line (LCall x args) = LCall (bare_spot x) (map bare_arg args)

abbrev pub bare_sline : SLine → SLine
bare_sline (SClocks xs) = SClocks (map bare_spot xs)
bare_sline (SLineOf l) = SLineOf (bare_line l)

abbrev pub bare_member : PlainMember → PlainMember
bare_member m = record { name = bare_spot m.name; params = map bare_param m.params; body = bare_expression m.body }

abbrev pub bare_definition : PlainDefinition → PlainDefinition
bare_definition (DRelation x params ls) = DRelation (bare_spot x) (map bare_param params) (map bare_line ls)
bare_definition (DGroup ms) = DGroup (map bare_member ms)

abbrev pub bare_file : PlainFile → PlainFile
bare_file f = record { version = f.version; definitions = map bare_definition f.definitions; lines = map bare_sline f.lines }
