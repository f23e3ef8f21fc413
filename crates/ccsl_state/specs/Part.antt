-- What the states of some definitions hold: a system, the clocks whose definitions are followed, and a row of numbers that is laid out
-- as one of all states. In it only the regions of the followed definitions are rewritten.
--     followed_tree p i      the tree of definition number i, as long as it is followed
--     part_of p s      the clocks of a step that are declared or followed
--     PartStandsFor      the lists of steps after which the regions are as they are
use Rattle.std.specs.Prelude.{◌≡◌, ℕ, ◌+◌, ◌<◌, ◌^◌, List, true, length, filter, slice_get, Option}
use Rattle.ccsl_base.specs.Clocks.{ticks_in}
use Rattle.ccsl_kernel.specs.Syntax.{System}
use Rattle.ccsl_kernel.specs.Lives.{Step}
use Rattle.ccsl_state.specs.Tree.{Tree}
use Rattle.ccsl_state.specs.States.{trees_in, trees_after}
use Rattle.ccsl_state.specs.Held.{calls_of}
use Rattle.ccsl_state.specs.Reach.{is_within}

pub record HeldPart : Type 0 where
  pub system : System
  pub followed : List ℕ
  pub row : List ℕ

abbrev pub followed_tree : HeldPart → ℕ → Option Tree
followed_tree p i = slice_get (trees_in p.system (calls_of p.system) p.system.definitions p.row) i

abbrev pub part_of : HeldPart → Step → Step
part_of p s = filter (is_within p.system p.followed) s

-- STANDING FOR: the tree of each followed definition is the one after the steps, which are fewer than a counter can count
pub record PartStandsFor (p : HeldPart) (T : List Step) : Type 0 where
  pub trees : (i : ℕ) → ticks_in (p.system.declared + i) p.followed ≡ true → followed_tree p i ≡ slice_get (trees_after p.system T) i
  pub few : length T < 2 ^ 64
