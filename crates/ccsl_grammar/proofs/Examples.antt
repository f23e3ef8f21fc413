-- Worked files, computed: every production once, and where a text that is none fails.
use Rattle.std.proofs.Common.{◌≡◌, List, [], ◌∷◌, ◌++◌, refl}
use Rattle.ccsl_base.specs.declared.reserved.Reserved.TheVariants as w
use Rattle.ccsl_ast.specs.declared.spot.Spot.{Spot}
use Rattle.ccsl_ast.specs.declared.term.Sign.TheVariants.{Plus, Minus}
use Rattle.ccsl_ast.specs.declared.term.Primary.TheVariants as prim
use Rattle.ccsl_ast.specs.declared.term.Term.{Term}
use Rattle.ccsl_ast.specs.declared.term.WordTerm.TheVariants as wterm
use Rattle.ccsl_ast.specs.declared.term.Test.TheVariants.{Equal, Less, Head, Ended}
use Rattle.ccsl_ast.specs.declared.term.Argument.TheVariants as arg
use Rattle.ccsl_ast.specs.declared.tree.BinaryOp.TheVariants as op
use Rattle.ccsl_ast.specs.declared.line.Relation.TheVariants as rel
use Rattle.ccsl_ast.specs.declared.definition.Kind.TheVariants as kind
use Rattle.ccsl_ast.specs.Trees.{EName, ECall, ENever, EBinary, EDelay, EAwait, EFilter, EDelayed, EIf, LDefine, LConstraint, LCall, SClocks, SLineOf}
use Rattle.ccsl_ast.specs.Trees.{DRelation, DGroup}
use Rattle.ccsl_grammar.specs.Terminals.{Terminal, word, name, number, quoted}
use Rattle.ccsl_grammar.specs.Grammar.{opening, closing, plus, comma, dash, semicolon, below, equals, left_brace, right_brace}
use Rattle.ccsl_grammar.specs.Reader.{no_syntax, too_deep, took, stopped, many}
use Rattle.ccsl_grammar.specs.Parser.{word_at, symbol_at, name_at, num_at, quoted_at, further_at, list_at, prim_at, sign_at, signed_at, term_at, wterm_at}
use Rattle.ccsl_grammar.specs.Parser.{comparison_at, test_at, arg_at, kind_at, param_at, precedes_at, relop_at, within_at, upto_at, sampled_at, binop_at}
use Rattle.ccsl_grammar.specs.Parser.{named_at, parens_at, operand_at, binary_at, second_at, delayed_at, delay_at, await_at, filter_at, rest_at, branches_at}
use Rattle.ccsl_grammar.specs.Parser.{choice_at, expr_with, no_room, expr_at, define_at, call_at, constraint_at, rline_at, clocks_at, sline_at, relation_at}
use Rattle.ccsl_grammar.specs.Parser.{member_at, further_member_at, group_at, definition_at, version_at, system_at, file_at}

abbrev a : Spot
a = record { at = 20; name = 97 ∷ [] }

abbrev b : Spot
b = record { at = 23; name = 98 ∷ [] }

abbrev alone : Spot → Term
alone x = record { first = prim.Name x; rest = [] }

abbrev number_two : Term
number_two = record { first = prim.Num 50 2; rest = [] }

abbrev version : List Terminal
version = word w.Ccsl ∷ number 5 1 ∷ semicolon ∷ []

abbrev version_two : List Terminal
version_two = word w.Ccsl ∷ number 5 2 ∷ semicolon ∷ []

abbrev system : List Terminal → List Terminal
system ts = version ++ word w.System ∷ left_brace ∷ ts

abbrev defined : List Terminal → List Terminal
defined ts = system (word w.Define ∷ name a ∷ equals ∷ ts)

record Reads : Type 0 where
  -- ccsl 1; relation a(clock a, number b, word a) { a precedes weakly b; b(a, 2 + a - b, "1", tail b); }
  relation : file_at 128 (version ++ word w.Relation ∷ name a ∷ opening ∷ word w.Clock ∷ name a ∷ comma ∷ word w.Number ∷ name b ∷ comma ∷ word w.Word ∷ name
      a ∷ closing ∷ left_brace
      ∷ name a ∷ word w.Precedes ∷ word w.Weakly ∷ name b ∷ semicolon
      ∷ name b ∷ opening ∷ name a ∷ comma ∷ number 50 2 ∷ plus ∷ name a ∷ dash ∷ name b ∷ comma ∷ quoted 60 (49 ∷ []) ∷ comma ∷ word w.Tail ∷ name
      b ∷ closing ∷ semicolon
      ∷ right_brace ∷ word w.System ∷ left_brace ∷ right_brace ∷ [])
      ≡ took (record {
        version = 1;
        lines = [];
        definitions =
            DRelation a (record { kind = kind.Clock; name = a } ∷ record { kind = kind.Number; name = b } ∷ record { kind = kind.Word; name = a } ∷ [])
            (LConstraint a rel.PrecedesWeakly b
            ∷ LCall b (arg.Term (alone a) ∷ arg.Term (record { first = prim.Num 50 2; rest = (Plus, prim.Name a) ∷ (Minus, prim.Name b) ∷ [] }) ∷ arg.Text 60
            (49 ∷ []) ∷ arg.Tail b ∷ [])
            ∷ []) ∷ [];
      }) []
  -- ccsl 1; expression a() = if a = 2 use a else b delay 2 and b(clock b) = if 2 < a use never else a filter "1"; system { }
  group : file_at 128 (version ++ word w.Expression ∷ name a ∷ opening ∷ closing ∷ equals ∷ word w.If ∷ name a ∷ equals ∷ number 50 2 ∷ word w.Use ∷ name
      a ∷ word w.Else ∷ name b ∷ word w.Delay ∷ number 50 2
      ∷ word w.And ∷ name b ∷ opening ∷ word w.Clock ∷ name b ∷ closing ∷ equals ∷ word w.If ∷ number 50 2 ∷ below ∷ name a ∷ word w.Use ∷ word w.Never ∷ word
      w.Else ∷ name a ∷ word w.Filter ∷ quoted 60 (49 ∷ []) ∷ semicolon
      ∷ word w.System ∷ left_brace ∷ right_brace ∷ [])
      ≡ took (record {
        version = 1;
        lines = [];
        definitions =
            DGroup (record { name = a; params = []; body = EIf (Equal (alone a) number_two) (EName a) (EDelay (EName b) number_two) }
            ∷ record {
              name = b;
              params = record { kind = kind.Clock; name = b } ∷ [];
              body =
                  EIf (Less number_two (alone a)) ENever (EFilter (EName a) (wterm.Text 60 (49 ∷ [])));
            } ∷ []) ∷ [];
      }) []
  -- ccsl 1; system { clock a, b; define a = if head a use b() else a filter b; define b = if ended b use a else a filter tail b; }
  tests : file_at 128 (system (word w.Clock ∷ name a ∷ comma ∷ name b ∷ semicolon
      ∷ word w.Define ∷ name a ∷ equals ∷ word w.If ∷ word w.Head ∷ name a ∷ word w.Use ∷ name b ∷ opening ∷ closing ∷ word w.Else ∷ name a ∷ word
      w.Filter ∷ name b ∷ semicolon
      ∷ word w.Define ∷ name b ∷ equals ∷ word w.If ∷ word w.Ended ∷ name b ∷ word w.Use ∷ name a ∷ word w.Else ∷ name a ∷ word w.Filter ∷ word w.Tail ∷ name
      b ∷ semicolon ∷ right_brace ∷ []))
      ≡ took (record {
        version = 1;
        definitions = [];
        lines = SClocks (a ∷ b ∷ [])
            ∷ SLineOf (LDefine a (EIf (Head a) (ECall b []) (EFilter (EName a) (wterm.Name b))))
            ∷ SLineOf (LDefine b (EIf (Ended b) (EName a) (EFilter (EName a) (wterm.Tail b)))) ∷ [];
      }) []
  -- define a = (a) union (b await 2); define a = (a inter b) minus (a inf b); and so on, the operators and the relations
  operators : file_at 128 (defined (opening ∷ name a ∷ closing ∷ word w.Union ∷ opening ∷ name b ∷ word w.Await ∷ number 50 2 ∷ closing ∷ semicolon
      ∷ word w.Define ∷ name a ∷ equals ∷ opening ∷ name a ∷ word w.Inter ∷ name b ∷ closing ∷ word w.Minus ∷ opening ∷ name a ∷ word w.Inf ∷ name
      b ∷ closing ∷ semicolon
      ∷ word w.Define ∷ name a ∷ equals ∷ opening ∷ name a ∷ word w.Sup ∷ name b ∷ closing ∷ word w.Upto ∷ opening ∷ name a ∷ word w.Then ∷ name
      b ∷ closing ∷ semicolon
      ∷ word w.Define ∷ name a ∷ equals ∷ opening ∷ name a ∷ word w.Sampled ∷ word w.On ∷ name b ∷ closing ∷ word w.Sampled ∷ word w.Weakly ∷ word
      w.On ∷ opening ∷ name a ∷ word w.Delayed ∷ number 50 2 ∷ word w.On ∷ name b ∷ closing ∷ semicolon
      ∷ name a ∷ word w.Subclock ∷ name b ∷ semicolon ∷ name a ∷ word w.Coincides ∷ name b ∷ semicolon ∷ name a ∷ word w.Excludes ∷ name b ∷ semicolon ∷ name
      a ∷ word w.Precedes ∷ name b ∷ semicolon ∷ right_brace ∷ []))
      ≡ took (record {
        version = 1;
        definitions = [];
        lines =
            SLineOf (LDefine a (EBinary op.Union (EName a) (EAwait (EName b) number_two)))
            ∷ SLineOf (LDefine a (EBinary op.Minus (EBinary op.Inter (EName a) (EName b)) (EBinary op.Inf (EName a) (EName b))))
            ∷ SLineOf (LDefine a (EBinary op.Upto (EBinary op.Sup (EName a) (EName b)) (EBinary op.Then (EName a) (EName b))))
            ∷ SLineOf (LDefine a (EBinary op.SampledWeakly (EBinary op.Sampled (EName a) (EName b)) (EDelayed (EName a) 50 2 (EName b))))
            ∷ SLineOf (LConstraint a rel.Subclock b) ∷ SLineOf (LConstraint a rel.Coincides b) ∷ SLineOf (LConstraint a rel.Excludes b) ∷ SLineOf
            (LConstraint a rel.Precedes b) ∷ [];
      }) []
  -- ccsl 2; system { define a = a upto weakly b; a precedes within 2 b; }
  two : file_at 128 (version_two ++ word w.System ∷ left_brace
      ∷ word w.Define ∷ name a ∷ equals ∷ name a ∷ word w.Upto ∷ word w.Weakly ∷ name b ∷ semicolon
      ∷ name a ∷ word w.Precedes ∷ word w.Within ∷ number 50 2 ∷ name b ∷ semicolon ∷ right_brace ∷ [])
      ≡ took (record {
        version = 2;
        definitions = [];
        lines = SLineOf (LDefine a (EBinary op.UptoWeakly (EName a) (EName b))) ∷ SLineOf (LConstraint a (rel.PrecedesWithin 50 2) b) ∷ [];
      }) []

record Fails : Type 0 where
  -- a clock line without its end, a file without its last brace, and what stands behind it
  no_end : file_at 128 (system (word w.Clock ∷ name a ∷ right_brace ∷ [])) ≡ stopped no_syntax (right_brace ∷ [])
  no_brace : file_at 128 (system []) ≡ stopped no_syntax []
  goes_on : file_at 128 (system (right_brace ∷ semicolon ∷ [])) ≡ stopped no_syntax (semicolon ∷ [])
  -- another version
  version_zero : file_at 128 (word w.Ccsl ∷ number 5 0 ∷ semicolon ∷ []) ≡ stopped no_syntax (number 5 0 ∷ semicolon ∷ [])
  version_three : file_at 128 (word w.Ccsl ∷ number 5 3 ∷ semicolon ∷ []) ≡ stopped no_syntax (number 5 3 ∷ semicolon ∷ [])
  -- a relation without a line
  no_line : file_at 128 (version ++ word w.Relation ∷ name a ∷ opening ∷ closing ∷ left_brace ∷ right_brace ∷ []) ≡ stopped no_syntax (right_brace ∷ [])
  -- a comma with no argument behind it
  no_argument : file_at 128 (system (name a ∷ opening ∷ name a ∷ comma ∷ closing ∷ [])) ≡ stopped no_syntax (closing ∷ [])
  -- two operators in one expression: the fault is at the second
  two_operators : file_at 128 (defined (name a ∷ word w.Union ∷ name b ∷ word w.Union ∷ name a ∷ semicolon ∷ right_brace ∷ [])) ≡ stopped no_syntax
      (word w.Union ∷ name a ∷ semicolon ∷ right_brace ∷ [])
  -- what version 1 does not have
  upto_weakly : file_at 128 (defined (name a ∷ word w.Upto ∷ word w.Weakly ∷ name b ∷ [])) ≡ stopped no_syntax (word w.Weakly ∷ name b ∷ [])
  precedes_within : file_at 128 (system (name a ∷ word w.Precedes ∷ word w.Within ∷ number 50 2 ∷ name b ∷ [])) ≡ stopped no_syntax
      (word w.Within ∷ number 50 2 ∷ name b ∷ [])
  -- with two levels, the third expression stands too deep; what begins none there is a fault of syntax
  three_levels : file_at 2 (defined (opening ∷ opening ∷ name a ∷ [])) ≡ stopped too_deep (name a ∷ [])
  no_third : file_at 2 (defined (opening ∷ opening ∷ semicolon ∷ [])) ≡ stopped no_syntax (semicolon ∷ [])

reads : Reads
unfolding many word_at symbol_at name_at num_at quoted_at further_at list_at prim_at sign_at signed_at term_at wterm_at comparison_at test_at arg_at kind_at
    param_at precedes_at relop_at within_at upto_at sampled_at binop_at named_at parens_at operand_at binary_at second_at delayed_at delay_at await_at filter_at
    rest_at branches_at choice_at expr_with no_room expr_at define_at call_at constraint_at rline_at clocks_at sline_at relation_at member_at
    further_member_at group_at definition_at version_at system_at file_at
reads = record { relation = refl; group = refl; tests = refl; operators = refl; two = refl }

fails : Fails
unfolding many word_at symbol_at name_at num_at quoted_at further_at list_at prim_at sign_at signed_at term_at wterm_at comparison_at test_at arg_at kind_at
    param_at precedes_at relop_at within_at upto_at sampled_at binop_at named_at parens_at operand_at binary_at second_at delayed_at delay_at await_at filter_at
    rest_at branches_at choice_at expr_with no_room expr_at define_at call_at constraint_at rline_at clocks_at sline_at relation_at member_at
    further_member_at group_at definition_at version_at system_at file_at
fails = record {
  no_end = refl;
  no_brace = refl;
  goes_on = refl;
  version_zero = refl;
  version_three = refl;
  no_line = refl;
  no_argument = refl;
  two_operators =
      refl;
  upto_weakly = refl;
  precedes_within = refl;
  three_levels = refl;
  no_third = refl;
}
