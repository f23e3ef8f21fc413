-- What states hold: a system and a row of numbers, and by the layout of the row a tree for each definition and two counts for each constraint.
--     trees_of, deaths_of, is_dead      the trees; the set of the dead clocks that they tell; whether a definition is dead
--     derived_by      the full step that declared ticks give
--     left_count, right_count      how often the clocks of a constraint ticked
--     formula_in      the formula of an item
--     Advances      the states before a full step and after it
--     StandsFor      the lists of steps after which the row is as it is
use Rattle.std.specs.Prelude.{◌≡◌, ℕ, ◌+◌, ◌-◌, ◌*◌, ◌<◌, ◌^◌, List, [], Bool, Option, Some, None, length, map, drop, slice_get, slice_index}
use Rattle.ccsl_base.specs.Clocks.{ticks_in}
use Rattle.ccsl_formula.specs.Formula.{Formula, FTrue, FVar, FIff}
use Rattle.ccsl_kernel.specs.declared.constraint.Constraint.{Constraint}
use Rattle.ccsl_kernel.specs.Syntax.{System}
use Rattle.ccsl_kernel.specs.Cells.{saturated, groups_cells}
use Rattle.ccsl_kernel.specs.Lives.{Step}
use Rattle.ccsl_kernel.specs.Items.{clock_count, relation_formula}
use Rattle.ccsl_state.specs.Tree.{bumped, Tree, formula_of}
use Rattle.ccsl_state.specs.Layout.{count_of}
use Rattle.ccsl_state.specs.States.{trees_in, next_all, deaths_from, derived_in, trees_after}

pub record Held : Type 0 where
  pub system : System
  pub row : List ℕ

-- the cells of a call to each group
abbrev pub calls_of : System → List ℕ
calls_of K = map saturated (groups_cells [] K.groups)

abbrev pub trees_of : Held → List Tree
trees_of h = trees_in h.system (calls_of h.system) h.system.definitions h.row

abbrev pub deaths_of : Held → List ℕ
deaths_of h = deaths_from [] h.system.declared (trees_of h)

abbrev pub is_dead : Held → ℕ → Bool
is_dead h i = ticks_in (h.system.declared + i) (deaths_of h)

abbrev pub derived_by : Held → Step → Step
derived_by h s = derived_in (trees_of h) h.system.declared s

-- the cells of the constraints are the last ones, two for each
abbrev pub counts_of : Held → List ℕ
counts_of h = drop (length h.row - 2 * length h.system.constraints) h.row

abbrev pub left_count : Held → ℕ → ℕ
left_count h j = count_of (slice_index (counts_of h) (2 * j))

abbrev pub right_count : Held → ℕ → ℕ
right_count h j = count_of (slice_index (counts_of h) (2 * j + 1))

-- True where there is no such constraint
abbrev pub counted_formula : ℕ → ℕ → Option Constraint → Formula
counted_formula m n None = FTrue
counted_formula m n (Some c) = relation_formula c.kind c.left c.right m n

-- a definition's tree says when its clock ticks
abbrev pub tree_or_constraint : Held → ℕ → Option Tree → Formula
tree_or_constraint h i (Some t) = FIff (FVar (h.system.declared + i)) (formula_of t)
tree_or_constraint h i None =
    let j = i - length h.system.definitions in counted_formula (left_count h j) (right_count h j) (slice_get h.system.constraints j)

abbrev pub formula_in : Held → ℕ → Formula
formula_in h i = tree_or_constraint h i (slice_get (trees_of h) i)

-- the cells of the constraints after a step
abbrev pub CellsCount : List Constraint → Step → List ℕ → List ℕ → Type 0
CellsCount cs s old new = (j : ℕ) (c : Constraint) → slice_get cs j ≡ Some c →
    (count_of (slice_index new (2 * j)) ≡ bumped (ticks_in c.left s) (count_of (slice_index old (2 * j))))
    × (count_of (slice_index new (2 * j + 1)) ≡ bumped (ticks_in c.right s) (count_of (slice_index old (2 * j + 1))))

pub record Advances (h : Held) (s : Step) (h' : Held) : Type 0 where
  pub system : h'.system ≡ h.system
  pub trees : trees_of h' ≡ next_all h.system s [] h.system.declared (trees_of h)
  pub counts : CellsCount h.system.constraints s (counts_of h) (counts_of h')

-- STANDING FOR: the trees are those after the steps, and the counts those of the constraints' clocks; the steps are fewer than a counter can count
pub record StandsFor (h : Held) (T : List Step) : Type 0 where
  pub trees : trees_of h ≡ trees_after h.system T
  pub counts : (j : ℕ) (c : Constraint) → slice_get h.system.constraints j ≡ Some c →
      (left_count h j ≡ clock_count T c.left (length T)) × (right_count h j ≡ clock_count T c.right (length T))
  pub few : length T < 2 ^ 64
