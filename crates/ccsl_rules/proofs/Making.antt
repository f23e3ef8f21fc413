-- Short forms for the examples.
use Rattle.std.specs.Prelude.{ℕ, List, [], ◌∷◌, Bool, codes}
use Rattle.ccsl_ast.specs.declared.definition.Kind.TheVariants as kind
use Rattle.ccsl_ast.specs.declared.term.Primary.TheVariants as prim
use Rattle.ccsl_ast.specs.declared.term.Test.TheVariants as test
use Rattle.ccsl_ast.specs.declared.term.Argument.TheVariants as arg
use Rattle.ccsl_ast.specs.declared.tree.BinaryOp.TheVariants as op
use Rattle.ccsl_ast.specs.declared.line.Relation.TheVariants as rel
use Rattle.ccsl_ast.specs.Trees.{Expression, EName, ECall, ENever, EBinary, EDelay, EAwait, EIf, LDefine, LConstraint, SLine, PlainMember, PlainDefinition}
use Rattle.ccsl_ast.specs.Trees.{DRelation, DGroup, PlainFile}
use Rattle.ccsl_kernel.specs.Syntax as kernel
use Rattle.ccsl_kernel.specs.Syntax.{System}
use Rattle.ccsl_ast.specs.declared.spot.Spot.{Spot}
use Rattle.ccsl_ast.specs.declared.definition.Kind.{Kind}
use Rattle.ccsl_ast.specs.declared.term.Sign.{Sign}
use Rattle.ccsl_ast.specs.declared.term.Primary.{Primary}
use Rattle.ccsl_ast.specs.declared.term.Term.{Term}
use Rattle.ccsl_ast.specs.declared.definition.Param.{Param}
use Rattle.ccsl_kernel.specs.declared.expr.NumSign.{NumSign}
use Rattle.ccsl_kernel.specs.declared.expr.NumPrim.{NumPrim}
use Rattle.ccsl_kernel.specs.declared.expr.NumTerm.{NumTerm}
use Rattle.ccsl_kernel.specs.declared.group.ParamKind.{ParamKind}
use Rattle.ccsl_kernel.specs.declared.constraint.RelationKind.{RelationKind}
use Rattle.ccsl_kernel.specs.declared.constraint.Constraint.{Constraint}
use Rattle.ccsl_kernel.specs.Syntax.{Body}
use Rattle.ccsl_words.specs.Word.{BinaryWord}

abbrev pub at_ : ℕ → List ℕ → Spot
at_ at name = record { at = at; name = name }

abbrev pub term_ : Primary → List (Sign × Primary) → Term
term_ first rest = record { first = first; rest = rest }

abbrev pub param_ : Kind → Spot → Param
param_ k s = record { kind = k; name = s }

abbrev pub part_ : Spot → List Param → Expression → PlainMember
part_ name params body = record { name = name; params = params; body = body }

abbrev pub sheet_ : List PlainDefinition → List SLine → PlainFile
sheet_ blocks entries = record { version = 1; definitions = blocks; lines = entries }

abbrev pub number_ : NumPrim → List (NumSign × NumPrim) → NumTerm
number_ first rest = record { first = first; rest = rest }

abbrev pub body_ : List ParamKind → kernel.Expression → Body
body_ params root = record { params = params; root = root }

abbrev pub word_ : List Bool → List Bool → BinaryWord
word_ prefix period = record { prefix = prefix; period = period }

abbrev pub constraint_ : RelationKind → ℕ → ℕ → List ℕ → Constraint
constraint_ k left right label = record { kind = k; left = left; right = right; label = label }

abbrev pub system_ : List (List ℕ) → ℕ → ℕ → List BinaryWord → List (List Body) → List kernel.Expression → List Constraint → System
system_ names declared written words groups definitions constraints =
    record { names = names; declared = declared; written = written; words = words; groups = groups; definitions = definitions; constraints = constraints }

-- the library's tree
abbrev pub the_library : PlainFile
the_library = sheet_ (
    (DRelation (at_ 17 (codes "alternates")) ((param_ kind.Clock (at_ 34 (codes "a"))) ∷ (param_ kind.Clock (at_ 43 (codes "b"))) ∷ [])
    ((LDefine (at_ 57 (codes "next")) (EDelay (EName (at_ 64 (codes "a"))) (term_ (prim.Num 72 1) []))) ∷
    (LConstraint (at_ 77 (codes "a")) rel.Precedes (at_ 88 (codes "b"))) ∷
    (LConstraint (at_ 93 (codes "b")) rel.Precedes (at_ 104 (codes "next"))) ∷ []))
    ∷ (DGroup ((part_ (at_ 123 (codes "periodic")) ((param_ kind.Clock (at_ 138 (codes "c"))) ∷ (param_ kind.Number (at_ 148 (codes "n"))) ∷ [])
    (EBinary op.Then (EAwait (EName (at_ 154 (codes "c"))) (term_ (prim.Name (at_ 162 (codes "n"))) []))
    (ECall (at_ 170 (codes "periodic"))
    ((arg.Term (term_ (prim.Name (at_ 179 (codes "c"))) [])) ∷ (arg.Term (term_ (prim.Name (at_ 182 (codes "n"))) [])) ∷ [])))) ∷ []))
    ∷ (DGroup ((part_ (at_ 197 (codes "skip")) ((param_ kind.Clock (at_ 208 (codes "c"))) ∷ (param_ kind.Number (at_ 218 (codes "n"))) ∷ [])
    (EIf (test.Equal (term_ (prim.Name (at_ 228 (codes "n"))) []) (term_ (prim.Num 232 0) [])) (EName (at_ 238 (codes "c")))
    (EBinary op.Then (EBinary op.Upto ENever (EAwait (EName (at_ 258 (codes "c"))) (term_ (prim.Name (at_ 266 (codes "n"))) [])))
    (EName (at_ 275 (codes "c")))))) ∷ []))
    ∷ (DGroup ((part_ (at_ 289 (codes "filter_by")) ((param_ kind.Clock (at_ 305 (codes "c"))) ∷ (param_ kind.Word (at_ 313 (codes "w"))) ∷ [])
    (EIf (test.Ended (at_ 329 (codes "w"))) ENever (EIf (test.Head (at_ 356 (codes "w")))
    (EBinary op.Then (EAwait (EName (at_ 363 (codes "c"))) (term_ (prim.Num 371 1) []))
    (ECall (at_ 379 (codes "filter_by")) ((arg.Term (term_ (prim.Name (at_ 389 (codes "c"))) [])) ∷ (arg.Tail (at_ 397 (codes "w"))) ∷ [])))
    (EBinary op.Then (EBinary op.Upto ENever (EName (at_ 419 (codes "c"))))
    (ECall (at_ 427 (codes "filter_by"))
    ((arg.Term (term_ (prim.Name (at_ 437 (codes "c"))) [])) ∷ (arg.Tail (at_ 445 (codes "w"))) ∷ [])))))) ∷ [])) ∷ []) []
