-- What is owed for regions.
--     IsReady      for the region of an expression, which begins behind `own` cells of the row; inner, where a call of the own group can't stand
--     AreReady      for those of two operands, one behind the other
--     IsCallReady      for that of a call to the group behind all of lay
--     IsCallBody      what is known then of the body: its expression behind the cells of `count` parameters, which stand for ρ
--     IsBirthReady      for that of a call of a member at its birth
--     HasRegions      for those of the definitions from number i on
use Rattle.std.specs.Prelude.{◌≡◌, ℕ, suc, ◌+◌, ◌<◌, ◌≤◌, List, Bool, true, false, Some, length, drop, take, slice_get}
use Rattle.ccsl_base.specs.declared.limits.TheConstants.{MAX_CELLS, MAX_LEVELS}
use Rattle.ccsl_kernel.specs.declared.actual.Actual.{Actual}
use Rattle.ccsl_kernel.specs.declared.expr.Expr.{Expr}
use Rattle.ccsl_kernel.specs.declared.expr.Value.{Value}
use Rattle.ccsl_kernel.specs.Plain.{plain_expr}
use Rattle.ccsl_kernel.specs.Deep.{deep}
use Rattle.ccsl_kernel.specs.Fitting.{ValuesFit}
use Rattle.ccsl_state.specs.declared.layout.Layout.{Layout}
use Rattle.ccsl_state.specs.Standing.{IsCall}
use Rattle.ccsl_state.specs.States.{places_from}
use Rattle.ccsl_state.specs.Regions.{tree, call_tree, size, size_from, HasTable, MayStand, WordsFit, ParamsFit, HasRoom, HasRoomFor}

pub record IsReady (lay : Layout) (inner : Bool) (own : ℕ) (e : Expr) (ρ : List Actual) (row : List ℕ) : Type 0 where
  pub table : HasTable lay
  pub groups : length lay.earlier.now ≤ length lay.system.now.groups
  pub shallow : deep (plain_expr e) ≤ suc MAX_LEVELS
  pub offsets : WordsFit lay e
  pub stands : MayStand lay inner e
  pub actuals : ParamsFit lay ρ
  pub room : own + size lay e ≤ length row
  pub few : length row ≤ MAX_CELLS

pub record AreReady (lay : Layout) (own : ℕ) (a d : Expr) (ρ : List Actual) (row : List ℕ) : Type 0 where
  pub left : IsReady lay true own a ρ row
  pub right : IsReady lay true (own + size lay a) d ρ row

pub record IsCallReady (lay : Layout) (g : ℕ) (row : List ℕ) : Type 0 where
  pub table : HasTable lay
  pub group : length lay.earlier.now ≡ g
  pub groups : g < length lay.system.now.groups
  pub some : 1 ≤ length row
  pub room : HasRoom lay g (length row)
  pub few : length row ≤ MAX_CELLS

pub record IsCallBody (lay : Layout) (g : ℕ) (root : Expr) (count : ℕ) (ρ : List Actual) (row : List ℕ) : Type 0 where
  pub few : count ≤ 8
  pub ready : IsReady lay false (1 + count) root ρ row
  pub tree_is : call_tree lay row ≡ tree lay root ρ (drop (1 + count) row)
  pub same : (row' : List ℕ) → take (1 + count) row' ≡ take (1 + count) row → call_tree lay row' ≡ tree lay root ρ (drop (1 + count) row')
  pub room : (n : ℕ) → HasRoom lay g n → 1 + count + size lay root ≤ n

pub record IsBirthReady (lay : Layout) (g member : ℕ) (args : List Value) (ρ : List Actual) (row : List ℕ) : Type 0 where
  pub table : HasTable lay
  pub group : length lay.earlier.now ≡ g
  pub groups : g < length lay.system.now.groups
  pub is : IsCall lay.system.now g member args
  pub fits : ValuesFit lay.system.now.words args
  pub actuals : ParamsFit lay ρ
  pub room : HasRoomFor lay g member (length row)
  pub few : length row ≤ MAX_CELLS

pub record HasRegions (lay : Layout) (i : ℕ) (row : List ℕ) : Type 0 where
  pub table : HasTable lay
  pub groups : length lay.earlier.now ≡ length lay.system.now.groups
  pub within : i ≤ length lay.system.now.definitions
  pub room : size_from lay i ≤ length row
  pub few : length row ≤ MAX_CELLS

-- where the region of definition number i begins
abbrev pub BeginsAt : Layout → ℕ → ℕ → Type 0
BeginsAt lay i place = slice_get (places_from lay.earlier.now 0 lay.system.now.definitions) i ≡ Some place
