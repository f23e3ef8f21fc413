-- A world that never fails: its value, and how it starts.
use Rattle.std.specs.Prelude.{ℕ, true, false, List, [], Option, Some, None, drop, slice_get, unwrap_or}
use Rattle.std.specs.Option.{option_map}
use Rattle.ccsl_edge.specs.declared.steady.Source.{Source}
use Rattle.ccsl_edge.specs.World.{SlotState, Told}
use Rattle.ccsl_edge.specs.SlotTable.{slots_at_start}

pub record SteadyState : Type 0 where
  pub files : List (List ℕ × List ℕ)
  -- what stands of each slot, in the order of the slots
  pub slots : List SlotState
  -- the most bytes that one read or write moves
  pub piece : ℕ

-- a world that never fails at the start
abbrev pub steady_at_start : List (List ℕ × List ℕ) → ℕ → SteadyState
steady_at_start files piece = record { files = files; slots = slots_at_start; piece = piece }

-- it tells the bytes left, and neither the files nor the bytes written
abbrev pub tells_left : Told
tells_left = record { files = false; left = true; written = false }

-- the content of a file by its number, which is nothing where there is none
abbrev pub content_at : List (List ℕ × List ℕ) → Option ℕ → List ℕ
content_at files None = []
content_at files (Some i) = unwrap_or (option_map (λ file. file.1) (slice_get files i)) []

-- what stands of a slot: nothing is kept of what was written, and no call failed
abbrev pub slot_of_source : List (List ℕ × List ℕ) → Source → SlotState
slot_of_source files s = record {
  left = drop s.taken (content_at files s.file);
  written = [];
  name = [];
  is_open = s.is_open;
  faults = 0;
}
