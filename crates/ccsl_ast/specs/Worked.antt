-- Worked examples: the depth of expressions, what a file may hold, and what it may not.
use Rattle.std.specs.Prelude.{◌≡◌, ℕ, true, false, List, [], ◌∷◌, codes, replicate}
use Rattle.std.specs.List.{list_all, list_any}
use Rattle.ccsl_ast.specs.declared.spot.Spot.{Spot}
use Rattle.ccsl_ast.specs.declared.term.Primary.TheVariants as primary
use Rattle.ccsl_ast.specs.declared.term.Term.{Term}
use Rattle.ccsl_ast.specs.declared.term.WordTerm.TheVariants as word
use Rattle.ccsl_ast.specs.declared.term.Test.TheVariants.{Less, Head}
use Rattle.ccsl_ast.specs.declared.term.Argument.{Argument}
use Rattle.ccsl_ast.specs.declared.term.Argument.TheVariants as argument
use Rattle.ccsl_ast.specs.declared.tree.BinaryOp.TheVariants.{Union, UptoWeakly, SampledWeakly}
use Rattle.ccsl_ast.specs.declared.line.Relation.TheVariants.{Precedes, PrecedesWithin}
use Rattle.ccsl_ast.specs.declared.definition.Kind.TheVariants.{Number}
use Rattle.ccsl_ast.specs.Trees.{Expression, EName, ECall, ENever, EBinary, EDelay, EAwait, EFilter, EDelayed, EIf, Line, LDefine, LConstraint, LCall, SLine}
use Rattle.ccsl_ast.specs.Trees.{SClocks, SLineOf, PlainDefinition, DRelation, DGroup, PlainFile}
use Rattle.ccsl_ast.specs.Depth.{depth}
use Rattle.ccsl_ast.specs.Kept.{file_kept}

abbrev pub spot : List ℕ → Spot
spot name = record { at = 0; name = name }

-- the clock a
abbrev pub a : Expression
a = EName (spot (codes "a"))

abbrev pub number : ℕ → Term
number n = record { first = primary.Num 0 n; rest = [] }

-- a union (a delay 1)
abbrev pub delayed_in_union : Expression
delayed_in_union = EBinary Union a (EDelay a (number 1))

-- if head w use a else a
abbrev pub choice : Expression
choice = EIf (Head (spot (codes "w"))) a a

abbrev pub HasDepth : Expression → ℕ → Type 0
HasDepth e n = depth e ≡ n

pub record DepthsAreWorked : Type 0 where
  pub name : HasDepth a 1
  pub call : HasDepth (ECall (spot (codes "f")) []) 1
  pub operator : HasDepth (EBinary Union a ENever) 1
  pub parens : HasDepth delayed_in_union 2
  pub left : HasDepth (EBinary SampledWeakly delayed_in_union a) 3
  pub filter : HasDepth (EFilter delayed_in_union (word.Text 0 (codes "1"))) 3
  pub delayed : HasDepth (EDelayed a 0 2 (EAwait a (number 1))) 2
  pub branches : HasDepth choice 2
  pub branch_in_parens : HasDepth (EBinary Union a choice) 3
  pub deeper_branch : HasDepth (EIf (Less (number 1) (number 2)) a delayed_in_union) 3

abbrev pub file : List PlainDefinition → List SLine → PlainFile
file definitions lines = record { version = 1; definitions = definitions; lines = lines }

abbrev pub of_version : ℕ → Line → PlainFile
of_version n line = record { version = n; definitions = []; lines = SLineOf line ∷ [] }

abbrev pub with_line : Line → PlainFile
with_line line = of_version 1 line

-- the forms of version 2: define u = a upto weakly never, and a precedes within 0 b
abbrev pub upto_weakly : Line
upto_weakly = LDefine (spot (codes "u")) (EBinary UptoWeakly a ENever)

abbrev pub within : Line
within = LConstraint (spot (codes "a")) (PrecedesWithin 0 0) (spot (codes "b"))

abbrev pub with_argument : Argument → PlainFile
with_argument x = with_line (LCall (spot (codes "r")) (x ∷ []))

abbrev pub constraint : List ℕ → Line
constraint name = LConstraint (spot name) Precedes (spot (codes "b"))

abbrev pub may_be : List PlainFile
may_be =
    file [] []
    ∷ of_version 2 upto_weakly
    ∷ of_version 2 within
    ∷ with_line (constraint (replicate 64 97))
    ∷ with_line (LDefine (spot (codes "_u1")) delayed_in_union)
    ∷ with_argument (argument.Text 0 (codes "0~ 1(01)"))
    ∷ with_argument (argument.Term (number 4294967295))
    ∷ file [] (SClocks (spot (codes "a") ∷ spot (codes "b") ∷ []) ∷ [])
    ∷ file (DRelation (spot (codes "r")) [] (constraint (codes "a") ∷ []) ∷ []) []
    ∷ file (DGroup (record { name = spot (codes "f"); params = record { kind = Number; name = spot (codes "n") } ∷ []; body = a } ∷ []) ∷ []) []
    ∷ []

abbrev pub may_not_be : List PlainFile
may_not_be =
    record { version = 0; definitions = []; lines = [] }
    ∷ record { version = 3; definitions = []; lines = [] }
    ∷ with_line upto_weakly
    ∷ with_line within
    ∷ with_line (constraint (replicate 65 97))
    ∷ with_line (constraint [])
    ∷ with_line (constraint (codes "clock"))
    ∷ with_line (constraint (codes "1a"))
    ∷ with_line (constraint (codes "a-b"))
    ∷ with_argument (argument.Text 0 (31 ∷ []))
    ∷ with_argument (argument.Text 0 (34 ∷ []))
    ∷ with_argument (argument.Text 0 (127 ∷ []))
    ∷ with_argument (argument.Term (number 4294967296))
    ∷ with_argument (argument.Tail (spot (codes "if")))
    ∷ file [] (SClocks [] ∷ [])
    ∷ file (DRelation (spot (codes "r")) [] [] ∷ []) []
    ∷ file (DGroup [] ∷ []) []
    ∷ []

abbrev pub FilesAreWorked : Type 0
FilesAreWorked = (list_all file_kept may_be ≡ true) × (list_any file_kept may_not_be ≡ false)
