-- Regions as the program sees them: a body's place, an expression in it, what the parameters stand for, and the cells.
--     tree, call_tree      the tree in the region of an expression; in that of a call to the group behind the place
--     size, size_from      the cells of an expression; of the definitions from number i on
--     newborn, after, ticks      the tree at a birth; after a step; whether it ticks in a step
--     one_tree, pair_tree, then_tree      the tree of an operator, from those of its operands
use Rattle.std.specs.Prelude.{◌≡◌, ℕ, ◌+◌, ◌≤◌, List, Bool, Option, Some, length, drop, take, max, slice_index}
use Rattle.ccsl_formula.specs.Formula.{eval}
use Rattle.ccsl_kernel.specs.declared.actual.Actual.{Actual}
use Rattle.ccsl_kernel.specs.declared.expr.Expr.{Expr}
use Rattle.ccsl_kernel.specs.Syntax.{Body, body_of}
use Rattle.ccsl_kernel.specs.Plain.{plain_expr}
use Rattle.ccsl_kernel.specs.Lives.{Step}
use Rattle.ccsl_kernel.specs.Cells.{cells_in}
use Rattle.ccsl_kernel.specs.Fit.{ActualsFit}
use Rattle.ccsl_kernel.specs.Fitting.{ExprFits}
use Rattle.ccsl_state.specs.declared.layout.Layout.{Layout}
use Rattle.ccsl_state.specs.declared.node.Unary.{Unary}
use Rattle.ccsl_state.specs.Tree.{Tree, Two, TOne, opening, next, formula_of}
use Rattle.ccsl_state.specs.Layout.{flag_at, lag_at, then_at, read, region_of}
use Rattle.ccsl_state.specs.Nodes.{one_at, pair_at}
use Rattle.ccsl_state.specs.Standing.{Stands, IsEnough}
use Rattle.ccsl_state.specs.Moves.{gone_in}
use Rattle.ccsl_state.specs.States.{cells_from, trees_in}

abbrev pub tree : Layout → Expr → List Actual → List ℕ → Tree
tree lay e ρ row = read lay.system.now lay.earlier.now (plain_expr e) ρ row

abbrev pub call_tree : Layout → List ℕ → Tree
call_tree lay row = region_of lay.system.now lay.earlier.now row

abbrev pub size : Layout → Expr → ℕ
size lay e = cells_in lay.earlier.now (plain_expr e)

abbrev pub newborn : Layout → Expr → List Actual → Tree
newborn lay e ρ = opening lay.system.now (plain_expr e) ρ

abbrev pub after : Layout → Step → List ℕ → Tree → Tree
after lay s gone t = next lay.system.now s (gone_in gone) t

abbrev pub ticks : Tree → Step → Bool
ticks t s = eval (formula_of t) s

-- the trees of the definitions from number i on, and their cells
abbrev pub trees_from : Layout → ℕ → List ℕ → List Tree
trees_from lay i row = trees_in lay.system.now lay.earlier.now (drop i lay.system.now.definitions) row

abbrev pub size_from : Layout → ℕ → ℕ
size_from lay i = cells_from lay.earlier.now (drop i lay.system.now.definitions)

-- the place of the bodies of a group
pub record IsBefore (lay : Layout) (group : ℕ) (before : Layout) : Type 0 where
  pub system : before.system.now ≡ lay.system.now
  pub earlier : before.earlier.now ≡ take group lay.earlier.now

-- what is owed: a table that is enough, an expression that may stand there, and words' offsets that fit
abbrev pub HasTable : Layout → Type 0
HasTable lay = IsEnough lay.system.now lay.earlier.now

abbrev pub MayStand : Layout → Bool → Expr → Type 0
MayStand lay inner e = Stands lay.system.now (length lay.earlier.now) inner (plain_expr e)

abbrev pub WordsFit : Layout → Expr → Type 0
WordsFit lay e = ExprFits lay.system.now.words (plain_expr e)

abbrev pub ParamsFit : Layout → List Actual → Type 0
ParamsFit lay ρ = ActualsFit lay.system.now.words ρ

-- the trees of an operator's operands, behind its own cells
abbrev pub left_tree : Layout → Expr → List Actual → ℕ → List ℕ → Tree
left_tree lay a ρ own row = tree lay a ρ (drop own row)

abbrev pub right_tree : Layout → Expr → Expr → List Actual → ℕ → List ℕ → Tree
right_tree lay a d ρ own row = tree lay d ρ (drop (own + size lay a) row)

-- n cells are enough for a call of a member, and of each member of a group
abbrev pub HasRoomFor : Layout → ℕ → ℕ → ℕ → Type 0
HasRoomFor lay group member n = (b : Body) → body_of lay.system.now.groups group member ≡ Some b → 1 + length b.params + cells_in lay.earlier.now b.root ≤ n

abbrev pub HasRoom : Layout → ℕ → ℕ → Type 0
HasRoom lay group n = (m : ℕ) (b : Body) → body_of lay.system.now.groups group m ≡ Some b → 1 + length b.params + cells_in lay.earlier.now b.root ≤ n

abbrev pub then_tree : Layout → Expr → Expr → List Actual → List ℕ → Tree
then_tree lay a d ρ row = then_at (flag_at row) (left_tree lay a ρ 1 row) (left_tree lay d ρ 1 row) (plain_expr d) ρ

-- an operator of one operand; of two, whose node the own cells hold
abbrev pub one_tree : Layout → Unary → Expr → List Actual → List ℕ → Tree
one_tree lay unary a ρ row = TOne (one_at lay.system.now.words unary (slice_index row 0)) (left_tree lay a ρ 1 row)

abbrev pub pair_tree : Layout → (List ℕ → Option Two) → ℕ → Expr → Expr → List Actual → List ℕ → Tree
pair_tree lay at own a d ρ row = pair_at (at row) (left_tree lay a ρ own row) (right_tree lay a d ρ own row)

abbrev pub newborn_pair : Layout → Option Two → Expr → Expr → List Actual → Tree
newborn_pair lay o a d ρ = pair_at o (newborn lay a ρ) (newborn lay d ρ)

abbrev pub lag_node : ℕ → List ℕ → Option Two
lag_node m row = Some (lag_at m row)

-- the cells of two operands one behind the other, and of two that share theirs
abbrev pub pair_size : Layout → ℕ → Expr → Expr → ℕ
pair_size lay own a d = own + size lay a + size lay d

abbrev pub choice_size : Layout → Expr → Expr → ℕ
choice_size lay a d = 1 + max (size lay a) (size lay d)
