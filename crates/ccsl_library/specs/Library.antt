-- The tree of the library: the relation `alternates`, and the expressions `periodic`, `skip` and `filter_by`, with their places in its text.
use Rattle.std.specs.Prelude.{ℕ, List, [], ◌∷◌, codes}
use Rattle.ccsl_ast.specs.declared.spot.Spot.{Spot}
use Rattle.ccsl_ast.specs.declared.term.Primary.{Primary}
use Rattle.ccsl_ast.specs.declared.term.Primary.TheVariants as primary
use Rattle.ccsl_ast.specs.declared.term.Term.{Term}
use Rattle.ccsl_ast.specs.declared.term.Test.TheVariants as test
use Rattle.ccsl_ast.specs.declared.term.Argument.{Argument}
use Rattle.ccsl_ast.specs.declared.term.Argument.TheVariants as argument
use Rattle.ccsl_ast.specs.declared.definition.Kind.{Kind}
use Rattle.ccsl_ast.specs.declared.definition.Kind.TheVariants as kind
use Rattle.ccsl_ast.specs.declared.definition.Param.{Param}
use Rattle.ccsl_ast.specs.declared.line.Relation.TheVariants.{Precedes}
use Rattle.ccsl_ast.specs.declared.tree.BinaryOp.TheVariants.{Then, Upto}
use Rattle.ccsl_ast.specs.Trees.{Expression, EName, ECall, ENever, EBinary, EDelay, EAwait, EIf, LDefine, LConstraint, PlainMember, PlainDefinition, DRelation}
use Rattle.ccsl_ast.specs.Trees.{DGroup, PlainFile}

abbrev pub name_at : ℕ → List ℕ → Spot
name_at at name = record { at = at; name = name }

abbrev pub param_at : Kind → ℕ → List ℕ → Param
param_at kind at name = record { kind = kind; name = name_at at name }

-- a term of one number or one name
abbrev pub term_of : Primary → Term
term_of p = record { first = p; rest = [] }

abbrev pub number_at : ℕ → ℕ → Term
number_at at n = term_of (primary.Num at n)

abbrev pub named_at : ℕ → List ℕ → Term
named_at at name = term_of (primary.Name (name_at at name))

abbrev pub passed_at : ℕ → List ℕ → Argument
passed_at at name = argument.Term (named_at at name)

abbrev pub tail_at : ℕ → List ℕ → Argument
tail_at at name = argument.Tail (name_at at name)

abbrev pub clock_at : ℕ → List ℕ → Expression
clock_at at name = EName (name_at at name)

-- relation alternates(clock a, clock b)
abbrev pub alternates : PlainDefinition
alternates =
    DRelation (name_at 17 (codes "alternates")) (param_at kind.Clock 34 (codes "a") ∷ param_at kind.Clock 43 (codes "b") ∷ [])
    (LDefine (name_at 57 (codes "next")) (EDelay (clock_at 64 (codes "a")) (number_at 72 1))
    ∷ LConstraint (name_at 77 (codes "a")) Precedes (name_at 88 (codes "b"))
    ∷ LConstraint (name_at 93 (codes "b")) Precedes (name_at 104 (codes "next"))
    ∷ [])

-- expression periodic(clock c, number n)
abbrev pub periodic : PlainMember
periodic = record {
  name = name_at 123 (codes "periodic");
  params = param_at kind.Clock 138 (codes "c") ∷ param_at kind.Number 148 (codes "n") ∷ [];
  body = EBinary Then (EAwait (clock_at 154 (codes "c")) (named_at 162 (codes "n")))
      (ECall (name_at 170 (codes "periodic")) (passed_at 179 (codes "c") ∷ passed_at 182 (codes "n") ∷ []));
}

-- expression skip(clock c, number n)
abbrev pub skip : PlainMember
skip = record {
  name = name_at 197 (codes "skip");
  params = param_at kind.Clock 208 (codes "c") ∷ param_at kind.Number 218 (codes "n") ∷ [];
  body = EIf (test.Equal (named_at 228 (codes "n")) (number_at 232 0)) (clock_at 238 (codes "c"))
      (EBinary Then (EBinary Upto ENever (EAwait (clock_at 258 (codes "c")) (named_at 266 (codes "n")))) (clock_at 275 (codes "c")));
}

-- expression filter_by(clock c, word w)
abbrev pub filter_by : PlainMember
filter_by = record {
  name = name_at 289 (codes "filter_by");
  params = param_at kind.Clock 305 (codes "c") ∷ param_at kind.Word 313 (codes "w") ∷ [];
  body = EIf (test.Ended (name_at 329 (codes "w"))) ENever
      (EIf (test.Head (name_at 356 (codes "w")))
      (EBinary Then (EAwait (clock_at 363 (codes "c")) (number_at 371 1))
      (ECall (name_at 379 (codes "filter_by")) (passed_at 389 (codes "c") ∷ tail_at 397 (codes "w") ∷ [])))
      (EBinary Then (EBinary Upto ENever (clock_at 419 (codes "c")))
      (ECall (name_at 427 (codes "filter_by")) (passed_at 437 (codes "c") ∷ tail_at 445 (codes "w") ∷ []))));
}

abbrev pub the_library : PlainFile
the_library = record {
  version = 1;
  definitions = alternates ∷ DGroup (periodic ∷ []) ∷ DGroup (skip ∷ []) ∷ DGroup (filter_by ∷ []) ∷ [];
  lines = [];
}
