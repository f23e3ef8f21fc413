-- THE STATES OF SOME DEFINITIONS, as they are kept between two steps.
--     IsFollowed K F i      whether definition number i is among the followed ones, whose clocks F has
--     AreReaders K F readers      readers has, at the number of a clock, the numbers of the followed definitions that read it
--     IsPassed      trees, ticks and dead clocks after a step, in which old were the trees and s the declared ticks
--     AreKept      trees of the followed definitions, with the clocks that are dead and the numbers of those that may not be settled
use Rattle.std.specs.Prelude.{◌≡◌, ℕ, ◌+◌, ◌<◌, List, [], true, false, ◌&&◌, length, slice_index_or}
use Rattle.ccsl_base.specs.Clocks.{ticks_in}
use Rattle.ccsl_kernel.specs.Syntax.{System}
use Rattle.ccsl_formula.specs.Formula.{eval}
use Rattle.ccsl_kernel.specs.Lives.{Step}
use Rattle.ccsl_state.specs.Tree.{Tree, TNever, next, formula_of, dead_of}
use Rattle.ccsl_state.specs.Moves.{gone_in}
use Rattle.ccsl_state.specs.Within.{TreeWithin}
use Rattle.ccsl_state.specs.Quiet.{reads, is_settled}

abbrev pub tree_number : List Tree → ℕ → Tree
tree_number ts i = slice_index_or ts i TNever

abbrev pub IsFollowed : System → List ℕ → ℕ → Type 0
IsFollowed K F i = (i < length K.definitions) × (ticks_in (K.declared + i) F ≡ true)

pub record AreReaders (K : System) (F : List ℕ) (readers : List (List ℕ)) : Type 0 where
  pub count : length readers ≡ K.declared + length K.definitions
  pub tell : (y i : ℕ) → ticks_in i (slice_index_or readers y []) ≡ (ticks_in (K.declared + i) F && reads K i y)

pub record AreKept (K : System) (F : List ℕ) (trees : List Tree) (gone unsettled : List ℕ) : Type 0 where
  pub within : (i : ℕ) → IsFollowed K F i → TreeWithin (λ y. reads K i y ≡ true) (tree_number trees i)
  pub dead : (i : ℕ) → IsFollowed K F i → ticks_in i unsettled ≡ false → ticks_in (K.declared + i) gone ≡ dead_of (gone_in gone) (tree_number trees i)
  pub alive : (y : ℕ) → y < K.declared → ticks_in y gone ≡ false
  pub settled : (i : ℕ) → IsFollowed K F i → ticks_in i unsettled ≡ false → is_settled (gone_in gone) (tree_number trees i) ≡ true
  pub few : (i : ℕ) → ticks_in i unsettled ≡ true → IsFollowed K F i

-- each followed definition has gone on by the step, which has its tick and no others than the declared ones
pub record IsPassed (K : System) (F : List ℕ) (old : List Tree) (s : Step) (trees : List Tree) (step : Step) (gone : List ℕ) : Type 0 where
  pub count : length trees ≡ length K.definitions
  pub tick : (i : ℕ) → IsFollowed K F i → ticks_in (K.declared + i) step ≡ eval (formula_of (tree_number old i)) step
  pub tree : (i : ℕ) → IsFollowed K F i → tree_number trees i ≡ next K step (gone_in gone) (tree_number old i)
  pub dead : (i : ℕ) → IsFollowed K F i → ticks_in (K.declared + i) gone ≡ dead_of (gone_in gone) (tree_number trees i)
  pub declared : (y : ℕ) → y < K.declared → ticks_in y step ≡ ticks_in y s
  pub outside : (i : ℕ) → (IsFollowed K F i → ⊥) → ticks_in (K.declared + i) step ≡ false
