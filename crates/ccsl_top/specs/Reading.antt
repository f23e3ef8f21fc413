-- What reading the files of a command leaves, where it stops or goes on.
use Rattle.std.specs.Prelude.{◌≡◌, ℕ, ◌<◌, ◌≤◌, Bool, List, length, Option, Some, None, IsTrue}
use Rattle.ccsl_edge.specs.declared.slot.Slot.{Slot}
use Rattle.ccsl_edge.specs.World.{State, Told, held}
use Rattle.ccsl_spec.specs.declared.specification.Specification.{Specification}
use Rattle.ccsl_spec.specs.Found.{IsRead}
use Rattle.ccsl_edge.specs.declared.stop.Stop.{Stop}
use Rattle.ccsl_edge.specs.declared.stop.Stop.TheVariants.{Fault, Memory}
use Rattle.ccsl_top.specs.Opening.{is_slot}
use Rattle.ccsl_top.specs.Effects.{RoseAt}
use Rattle.ccsl_top.specs.Changes.{Uses, Reads}

-- this slot alone
abbrev pub only : Slot → Slot → Bool
only slot other = is_slot slot other

-- the whole file of a name, or None where it has more bytes than allowed
abbrev pub IsFile : Told → List (List ℕ × List ℕ) → List ℕ → ℕ → Option (List ℕ) → Type 0
IsFile told files name limit None = IsTrue told.files → IsTrue told.left → limit < length (held files name)
IsFile told files name limit (Some bytes) = (length bytes ≤ limit) × (IsTrue told.files → IsTrue told.left → bytes ≡ held files name)

-- a call on the slot failed
pub record Breaks (slot : Slot) (old new : State) : Type 0 where
  pub uses : Uses (only slot) old new
  pub rose : RoseAt slot old new

-- a call on the slot failed, or no memory was to be had
abbrev pub IsStop : Stop → Slot → State → State → Type 0
IsStop Fault slot old new = Breaks slot old new
IsStop Memory slot old new = Reads (only slot) old new

-- the specification of a name
abbrev pub IsSpecOf : Told → List (List ℕ × List ℕ) → List ℕ → Specification → Type 0
IsSpecOf told files name found = IsTrue told.files → IsTrue told.left → IsRead (held files name) found
