-- Expressions and systems as contracts see them, without where their parts lie in memory.
use Rattle.std.specs.Prelude.{ℕ, ◌+◌, ◌-◌, List, Option, Some, None, length, slice_get, nat_lt, if◌then◌else◌}
use Rattle.ccsl_words.specs.Word.{BinaryWord}
pub use Rattle.ccsl_kernel.specs.declared.expr.Place.{Place}
pub use Rattle.ccsl_kernel.specs.declared.expr.NumPrim.{NumPrim}
pub use Rattle.ccsl_kernel.specs.declared.expr.NumSign.{NumSign}
pub use Rattle.ccsl_kernel.specs.declared.expr.NumTerm.{NumTerm}
pub use Rattle.ccsl_kernel.specs.declared.expr.WordPlace.{WordPlace}
pub use Rattle.ccsl_kernel.specs.declared.expr.Value.{Value}
pub use Rattle.ccsl_kernel.specs.declared.expr.ExprTest.{ExprTest}
pub use Rattle.ccsl_kernel.specs.declared.expr.ExprOp.{ExprOp}
pub use Rattle.ccsl_kernel.specs.declared.group.ParamKind.{ParamKind}
pub use Rattle.ccsl_kernel.specs.declared.constraint.RelationKind.{RelationKind}
pub use Rattle.ccsl_kernel.specs.declared.constraint.Constraint.{Constraint}

pub data Expression : Type 0 where
  EName : (x : Place) → Expression
  ECall : (group member : ℕ) → (args : List Value) → Expression
  ENever : Expression
  EBinary : (op : ExprOp) → (a d : Expression) → Expression
  EDelay : (a : Expression) → (m : NumTerm) → Expression
  EAwait : (a : Expression) → (m : NumTerm) → Expression
  EFilter : (a : Expression) → (w : WordPlace) → Expression
  EDelayed : (a : Expression) → (m : ℕ) → (d : Expression) → Expression
  EIf : (q : ExprTest) → (a d : Expression) → Expression

-- a member of a group: the kinds of its parameters, and its expression
pub record Body : Type 0 where
  pub params : List ParamKind
  pub root : Expression

-- a system: the names of its clocks, first the declared ones, then those that it defines, so many as are written, then the hidden ones;
-- its groups of expressions and its words; the definitions of the clocks from `declared` on; its constraints
pub record System : Type 0 where
  pub names : List (List ℕ)
  pub declared : ℕ
  pub written : ℕ
  pub groups : List (List Body)
  pub words : List BinaryWord
  pub definitions : List Expression
  pub constraints : List Constraint

-- items: the definitions in the order of their clocks, then the constraints
abbrev pub item_count : System → ℕ
item_count K = length K.definitions + length K.constraints

-- the member of a group
abbrev pub body_of : List (List Body) → ℕ → ℕ → Option Body
body_of groups group member = elim (slice_get groups group) [ None ↦ None | Some members ↦ slice_get members member ]

-- its expression, and never where there is none
abbrev pub root_or_never : Option Body → Expression
root_or_never None = ENever
root_or_never (Some body) = body.root

abbrev pub root_of : System → ℕ → ℕ → Expression
root_of K group member = root_or_never (body_of K.groups group member)

-- the definition of a clock, and none of a declared one
abbrev pub definition_of : System → ℕ → Option Expression
definition_of K x = if nat_lt x K.declared then None else slice_get K.definitions (x - K.declared)
