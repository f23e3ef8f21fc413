-- A VISIT of a definition in a step, and what is found of the step on its way.
--     IsVisited      the region of definition number i before and after a visit, whether its tree is known to be settled, and what is answered
--     IsEntered      the ticks and what is found before the visit is entered, and after it: those that read the clock wait, where there
--       is news of it
--     is_waiting sets p i      whether definition number i is unsettled, or reads a clock that ticks
use Rattle.std.specs.Prelude.{◌≡◌, ℕ, List, [], Bool, true, false, not, ◌&&◌, ◌||◌, slice_set, slice_index_or, nat_eq}
use Rattle.std.specs.List.{list_any}
use Rattle.ccsl_base.specs.Clocks.{ticks_in}
use Rattle.ccsl_base.specs.Changes.{put_clock}
use Rattle.ccsl_formula.specs.Formula.{eval}
use Rattle.ccsl_kernel.specs.Lives.{Step}
use Rattle.ccsl_state.specs.declared.layout.Layout.{Layout}
use Rattle.ccsl_state.specs.declared.moved.Stepped.{Stepped}
use Rattle.ccsl_state.specs.declared.follow.Passage.{Passage}
use Rattle.ccsl_state.specs.Tree.{Tree, formula_of, dead_of}
use Rattle.ccsl_state.specs.Moves.{gone_in}
use Rattle.ccsl_state.specs.States.{put}
use Rattle.ccsl_state.specs.Quiet.{is_settled}
use Rattle.ccsl_state.specs.Regions.{trees_from, after}
use Rattle.ccsl_state.specs.Passing.{tree_number}

-- the tree of definition number i
abbrev pub tree_at : Layout → ℕ → List ℕ → Tree
tree_at lay i row = tree_number (trees_from lay 0 row) i

pub record IsVisited (lay : Layout) (i : ℕ) (row row' : List ℕ) (s : Step) (gone unsettled unsettled' : List ℕ) (v : Stepped) : Type 0 where
  pub known : Bool
  pub tick : v.tick ≡ eval (formula_of (tree_at lay i row)) s
  pub dead : v.dead ≡ dead_of (gone_in gone) (after lay s gone (tree_at lay i row))
  pub settled : known ≡ true → is_settled (gone_in gone) (after lay s gone (tree_at lay i row)) ≡ true
  pub entered : (p : ℕ) → ticks_in p unsettled' ≡ ticks_in p (put_clock i (not known) unsettled)
  pub trees : trees_from lay 0 row' ≡ slice_set (trees_from lay 0 row) i (after lay s gone (tree_at lay i row))

pub record IsEntered (sets : List (List ℕ)) (i clock : ℕ) (v : Stepped) (s s' : Step) (old new : Passage) : Type 0 where
  pub news : Bool
  pub none : news ≡ false → (v.tick ≡ false) × (v.dead ≡ ticks_in clock old.gone)
  pub step : s' ≡ put v.tick clock s
  pub gone : (x : ℕ) → ticks_in x new.gone ≡ ticks_in x (put_clock clock v.dead old.gone)
  pub unsettled : new.unsettled ≡ old.unsettled
  pub waiting : (p : ℕ) → ticks_in p new.waiting ≡ ((ticks_in p old.waiting && not (nat_eq i p)) || (news && ticks_in p (slice_index_or sets clock [])))

abbrev pub is_waiting : List (List ℕ) → List ℕ → Step → ℕ → Bool
is_waiting sets unsettled s i = ticks_in i unsettled || list_any (λ y. ticks_in i (slice_index_or sets y [])) s
