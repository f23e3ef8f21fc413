-- A MONITOR TAKES ROWS as the next ones.
use Rattle.std.specs.Prelude.{◌≡◌, ℕ, ◌+◌, ◌<◌, ◌^◌, List, ◌++◌, length}
use Rattle.ccsl_base.specs.declared.rows.Row.{Row}
use Rattle.ccsl_relate.specs.Watching.{Watching, StandsFor}

-- it stands for some rows, and so many more can be counted
abbrev pub MayTake : Watching → ℕ → Type 0
MayTake v n = (recorded : List ℕ) × (rows : List Row) × StandsFor recorded v rows × (length rows + n < 2 ^ 64)

-- the same items go on, and stand for these rows too
pub record Takes (old new : Watching) (more : List Row) : Type 0 where
  pub system : new.system ≡ old.system
  pub start : new.start ≡ old.start
  pub count : length new.kept ≡ length old.kept
  pub stands : (recorded : List ℕ) (rows : List Row) → StandsFor recorded old rows → length rows + length more < 2 ^ 64
      → StandsFor recorded new (rows ++ more)
