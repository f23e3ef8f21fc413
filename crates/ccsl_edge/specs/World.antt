-- What clauses know of a world: the files, and each slot's bytes, name and count of faults.
use Rattle.std.specs.Prelude.{ℕ, ◌+◌, ◌-◌, ◌^◌, ◌≤◌, min, Bool, List, [], Option, unwrap_or}
use Rattle.std.specs.List.{find}
use Rattle.std.specs.Option.{option_map}
use Rattle.std.specs.Str.{bytes_eq}
use Rattle.ccsl_edge.specs.declared.slot.Slot.{Slot}

-- what stands of one slot
pub record SlotState : Type 0 where
  -- the bytes that an input slot has left
  pub left : List ℕ
  -- the bytes written to an output slot since it was opened, and the name under which it is open
  pub written : List ℕ
  pub name : List ℕ
  pub is_open : Bool
  -- how often a call on the slot has failed, up to the last value of a counter
  pub faults : ℕ

pub record State : Type 0 where
  -- the files, as names and contents; of two with one name the first counts
  pub files : List (List ℕ × List ℕ)
  pub slot_of : Slot → SlotState

-- which parts of its state a type of world tells; of the others no clause speaks
pub record Told : Type 0 where
  pub files : Bool
  pub left : Bool
  pub written : Bool

-- the content of the first file of this name, if there is one
abbrev pub file_at : List (List ℕ × List ℕ) → List ℕ → Option (List ℕ)
file_at files name = option_map (λ file. file.1) (find (λ file. bytes_eq file.0 name) files)

-- what is read under this name, which is nothing where there is no such file
abbrev pub held : List (List ℕ × List ℕ) → List ℕ → List ℕ
held files name = unwrap_or (file_at files name) []

-- the last value of a counter of 64 bits
abbrev pub last_count : ℕ
last_count = 2 ^ 64 - 1

-- a counter after one more; it stands still at its last value
abbrev pub risen : ℕ → ℕ
risen count = min (count + 1) last_count

-- the count did not fall, and it rose or stands at its last value
abbrev pub Rose : ℕ → ℕ → Type 0
Rose before now = (before ≤ now) × (risen before ≤ now)
