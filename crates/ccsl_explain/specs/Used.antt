-- Which items are in use, by a mark for each. No public contract speaks of it.
use Rattle.std.specs.Prelude.{ℕ, ◌≢◌, List, Bool, false, Some, slice_get}
use Rattle.ccsl_refute.specs.declared.line.Line.{Line}
use Rattle.ccsl_refute.specs.declared.line.Line.TheVariants.{Nonempty, Item, Derived}

-- a line about an item is about one of these
abbrev pub Cites : (ℕ → Type 0) → Line → Type 0
Cites IsAmong Nonempty = Unit {0}
Cites IsAmong (Item i lits) = IsAmong i
Cites IsAmong (Derived lits hints) = Unit {0}

-- an item is in use where no mark says that it is not
abbrev pub IsUsed : List Bool → ℕ → Type 0
IsUsed used j = slice_get used j ≢ Some false

-- what was in use still is
pub record KeepsUsed (old new : List Bool) : Type 0 where
  pub at : (j : ℕ) → IsUsed old j → IsUsed new j
