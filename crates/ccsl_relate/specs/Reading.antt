-- WHICH ITEMS READ A CLOCK, and what becomes of items that read none that ticks.
use Rattle.std.specs.Prelude.{◌≡◌, ℕ, ◌+◌, ◌*◌, ◌<◌, ◌≤◌, List, [], ◌∷◌, true, false, Option, map, length, slice_index_or, All, IfSome, IfNone}
use Rattle.std.specs.Option.{ForSome}
use Rattle.ccsl_base.specs.declared.limits.TheConstants.{MAX_CLOCKS}
use Rattle.ccsl_base.specs.Clocks.{ticks_in}
use Rattle.ccsl_kernel.specs.Lives.{Step}
use Rattle.ccsl_relate.specs.declared.watched.Watched.{Watched}
use Rattle.ccsl_relate.specs.declared.watched.Watched.TheVariants.{Nothing, Definition, Relation}
use Rattle.ccsl_relate.specs.Watching.{fails_in, next_in, FailsFirst}

-- the clocks that an item reads
abbrev pub clocks_of : Watched → List ℕ
clocks_of Nothing = []
clocks_of (Definition clock) = clock ∷ []
clocks_of (Relation r) = r.left ∷ r.right ∷ []

-- the sets of a group, one a clock, tell which of the items from a place on read the clock: `read` has the clocks of each item
abbrev pub TellsFrom : ℕ → List (List ℕ) → List (List ℕ) → Type 0
TellsFrom start group read =
    (clock place : ℕ) → place < MAX_CLOCKS → ticks_in place (slice_index_or group clock []) ≡ ticks_in clock (slice_index_or read (start + place) [])

-- groups of all items, one behind the other
pub record AreReaders (groups : List (List (List ℕ))) (read : List (List ℕ)) : Type 0 where
  pub whole : length read ≤ length groups * MAX_CLOCKS
  pub few : length groups * MAX_CLOCKS < length read + MAX_CLOCKS
  pub tell : (i : ℕ) → i < length groups → TellsFrom (i * MAX_CLOCKS) (slice_index_or groups i []) read

-- where there are groups, they are those of the items
abbrev pub Fit : Option (List (List (List ℕ))) → List Watched → Type 0
Fit readers kept = ForSome readers (λ groups. AreReaders groups (map clocks_of kept))

-- an item that neither fails nor changes in a step
pub record IsQuiet (ticks : List ℕ) (s : Step) (w : Watched) : Type 0 where
  pub obeys : fails_in ticks s w ≡ false
  pub stays : next_in s w ≡ w

-- the places of items of a group, from `start` on; all others of its items are quiet
pub record Touches (ticks : List ℕ) (s : Step) (touched : List ℕ) (start : ℕ) (kept : List Watched) : Type 0 where
  pub inside : (p : ℕ) → p < MAX_CLOCKS → ticks_in p touched ≡ true → start + p < length kept
  pub quiet : (p : ℕ) → p < MAX_CLOCKS → ticks_in p touched ≡ false → IsQuiet ticks s (slice_index_or kept (start + p) Nothing)

-- the first place from `start` on whose item fails in a step
pub record FailsFrom (ticks : List ℕ) (s : Step) (start : ℕ) (kept : List Watched) (place : ℕ) : Type 0 where
  pub low : start ≤ place
  pub inside : place < length kept
  pub fails : (d : Watched) → fails_in ticks s (slice_index_or kept place d) ≡ true
  pub before : (k : ℕ) (d : Watched) → start ≤ k → k < place → fails_in ticks s (slice_index_or kept k d) ≡ false

-- the items from place `start` to `end` do not fail and go on by a step; the others stay
pub record GoesOn (ticks : List ℕ) (s : Step) (start end : ℕ) (old new : List Watched) : Type 0 where
  pub count : length new ≡ length old
  pub obeys : (k : ℕ) (d : Watched) → start ≤ k → k < end → k < length old → fails_in ticks s (slice_index_or old k d) ≡ false
  pub gone : (k : ℕ) (d : Watched) → start ≤ k → k < end → k < length old → slice_index_or new k d ≡ next_in s (slice_index_or old k d)
  pub front : (k : ℕ) (d : Watched) → k < start → slice_index_or new k d ≡ slice_index_or old k d
  pub rest : (k : ℕ) (d : Watched) → end ≤ k → slice_index_or new k d ≡ slice_index_or old k d

-- SOME ITEMS TAKE A STEP: the first place of one that fails, or that none does and all go on by the step
pub record TakeStep (ticks : List ℕ) (s : Step) (old new : List Watched) (place : Option ℕ) : Type 0 where
  pub clocks : map clocks_of new ≡ map clocks_of old
  pub fails : IfSome place (FailsFirst ticks s old)
  pub none : IfNone place (All (λ w. fails_in ticks s w ≡ false) old)
  pub next : IfNone place (new ≡ map (next_in s) old)
