-- Trees without where they lie in memory: the form in which definitions and clauses speak of them.
use Rattle.std.specs.Prelude.{ℕ, List, Bool, true}
use Rattle.ccsl_ast.specs.declared.spot.Spot.{Spot}
use Rattle.ccsl_ast.specs.declared.term.Term.{Term}
use Rattle.ccsl_ast.specs.declared.term.WordTerm.{WordTerm}
use Rattle.ccsl_ast.specs.declared.term.Test.{Test}
use Rattle.ccsl_ast.specs.declared.term.Argument.{Argument}
use Rattle.ccsl_ast.specs.declared.tree.BinaryOp.{BinaryOp}
use Rattle.ccsl_ast.specs.declared.line.Relation.{Relation}
use Rattle.ccsl_ast.specs.declared.definition.Param.{Param}
use Rattle.ccsl_ast.specs.declared.tree.BinaryOp.TheVariants.{UptoWeakly}
use Rattle.ccsl_ast.specs.declared.line.Relation.TheVariants.{PrecedesWithin}

-- an expression
pub data Expression : Type 0 where
  EName : (x : Spot) → Expression
  ECall : (x : Spot) → (args : List Argument) → Expression
  ENever : Expression
  EBinary : (op : BinaryOp) → (a d : Expression) → Expression
  EDelay : (a : Expression) → (m : Term) → Expression
  EAwait : (a : Expression) → (m : Term) → Expression
  EFilter : (a : Expression) → (w : WordTerm) → Expression
  EDelayed : (a : Expression) → (at m : ℕ) → (d : Expression) → Expression
  EIf : (q : Test) → (a d : Expression) → Expression

-- a line of a relation's body
pub data Line : Type 0 where
  LDefine : (x : Spot) → (e : Expression) → Line
  LConstraint : (a : Spot) → (r : Relation) → (b : Spot) → Line
  LCall : (x : Spot) → (args : List Argument) → Line

-- a line of the system
pub data SLine : Type 0 where
  SClocks : (xs : List Spot) → SLine
  SLineOf : (l : Line) → SLine

-- a defined expression of a group
pub record PlainMember : Type 0 where
  pub name : Spot
  pub params : List Param
  pub body : Expression

-- a defined relation, or a group
pub data PlainDefinition : Type 0 where
  DRelation : (x : Spot) → (params : List Param) → (lines : List Line) → PlainDefinition
  DGroup : (members : List PlainMember) → PlainDefinition

-- a file
pub record PlainFile : Type 0 where
  pub version : ℕ
  pub definitions : List PlainDefinition
  pub lines : List SLine

-- whether it is a form of the version, which is 2 or not
abbrev pub binop_in : Bool → BinaryOp → Bool
binop_in two UptoWeakly = two
binop_in two _ = true

abbrev pub relop_in : Bool → Relation → Bool
relop_in two (PrecedesWithin at m) = two
relop_in two _ = true
