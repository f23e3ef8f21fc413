-- The items of a system in shares, each of which follows neighbouring items.
use Rattle.std.specs.Prelude.{◌≡◌, ℕ, ◌+◌, ◌<◌, ◌^◌, List, ◌++◌, length, Option, Some, None, nat_lt, if◌then◌else◌}
use Rattle.ccsl_base.specs.declared.rows.Row.{Row}
use Rattle.ccsl_kernel.specs.Syntax.{System}
use Rattle.ccsl_relate.specs.declared.violation.Violation.{Violation}
use Rattle.ccsl_relate.specs.Watching.{Watching, StandsFor}

-- a monitor stands for some rows, and has room for these
abbrev pub CanTake : Watching → List Row → Type 0
CanTake v block = (bound : List ℕ) × (rows : List Row) × StandsFor bound v rows × (length rows + length block < 2 ^ 64)

-- it follows the same items, and stands for the old rows and then for these
pub record Takes (old : Watching) (block : List Row) (new : Watching) : Type 0 where
  pub system : new.system ≡ old.system
  pub start : new.start ≡ old.start
  pub count : length new.kept ≡ length old.kept
  pub stands : (bound : List ℕ) (rows : List Row) → StandsFor bound old rows → length rows + length block < 2 ^ 64 → StandsFor bound new (rows ++ block)

-- a share stands for the rows, over items from number i on
pub record IsAt (K : System) (bound : List ℕ) (rows : List Row) (i : ℕ) (v : Watching) : Type 0 where
  pub system : v.system ≡ K
  pub start : v.start ≡ i
  pub stands : StandsFor bound v rows

-- the earlier of two violations, of which the first is of lower items
abbrev pub earlier : Option Violation → Option Violation → Option Violation
earlier None w = w
earlier (Some v) None = Some v
earlier (Some v) (Some w) = if nat_lt w.step v.step then Some w else Some v
