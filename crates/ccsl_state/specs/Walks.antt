-- What comes of a region of n cells. `tree` reads a row, and tells the tree that the region holds.
--     IsHeard, IsTold      whether it ticks in a step; its formula
--     IsOpened      the row before and after a birth, whose tree is born
--     IsAdvanced      the row before and after a step, where the expression may come to a call of the own group
--     IsRewritten      the same, where it can't
use Rattle.std.specs.Prelude.{◌≡◌, ℕ, List, true, length, drop}
use Rattle.ccsl_formula.specs.Formula.{eval}
use Rattle.ccsl_formula.specs.Plain.{plain}
use Rattle.ccsl_kernel.specs.declared.actual.Actual.{Actual}
use Rattle.ccsl_kernel.specs.Lives.{Step}
use Rattle.ccsl_state.specs.declared.layout.Layout.{Layout}
use Rattle.ccsl_state.specs.declared.moved.Born.{Born}
use Rattle.ccsl_state.specs.declared.moved.Heard.{Heard}
use Rattle.ccsl_state.specs.declared.moved.Moved.{Moved}
use Rattle.ccsl_state.specs.declared.moved.Visited.{Visited}
use Rattle.ccsl_state.specs.declared.told.Part.{Part}
use Rattle.ccsl_state.specs.Tree.{Tree, formula_of, dead_of}
use Rattle.ccsl_state.specs.Moves.{gone_in, Outcome}
use Rattle.ccsl_state.specs.Quiet.{is_settled}
use Rattle.ccsl_state.specs.Regions.{after}

pub record IsHeard (t : Tree) (n : ℕ) (s : Step) (r : Heard) : Type 0 where
  pub tick : r.tick ≡ eval (formula_of t) s
  pub size : r.size ≡ n

pub record IsTold (t : Tree) (n : ℕ) (r : Part) : Type 0 where
  pub formula : plain r.formula ≡ formula_of t
  pub size : r.size ≡ n

pub record IsOpened (tree : List ℕ → Tree) (n : ℕ) (born : Tree) (gone row row' : List ℕ) (r : Born) : Type 0 where
  pub opens : tree row' ≡ born
  pub rest : drop n row' ≡ drop n row
  pub dead : r.dead ≡ dead_of (gone_in gone) born
  pub size : r.size ≡ n

pub record IsAdvanced (lay : Layout) (ρ : List Actual) (tree : List ℕ → Tree) (n : ℕ) (s : Step) (gone row row' : List ℕ) (r : Moved) : Type 0 where
  pub tick : r.tick ≡ eval (formula_of (tree row)) s
  pub settled : r.settled ≡ true → is_settled (gone_in gone) (after lay s gone (tree row)) ≡ true
  pub next : Outcome lay.system.now s (gone_in gone) (length lay.earlier.now) ρ (tree row) (tree row') r.dead r.tail
  pub rest : drop n row' ≡ drop n row
  pub size : r.size ≡ n

pub record IsRewritten (lay : Layout) (tree : List ℕ → Tree) (s : Step) (gone row row' : List ℕ) (v : Visited) : Type 0 where
  pub tick : v.tick ≡ eval (formula_of (tree row)) s
  pub goes : tree row' ≡ after lay s gone (tree row)
  pub dead : v.dead ≡ dead_of (gone_in gone) (tree row')
  pub settled : v.settled ≡ true → is_settled (gone_in gone) (after lay s gone (tree row)) ≡ true
