-- A world in memory: its value, how it starts, and which of its calls fail.
use Rattle.std.specs.Prelude.{◌≡◌, ℕ, true, List, [], ◌∷◌, ◌⊎◌, slice_index, slice_set, IsNone}
use Rattle.std.specs.List.{Contains}
use Rattle.ccsl_edge.specs.declared.slot.Slot.{Slot}
use Rattle.ccsl_edge.specs.declared.slot.Slot.TheVariants.{Input}
use Rattle.ccsl_edge.specs.declared.plan.CallKind.{CallKind}
use Rattle.ccsl_edge.specs.declared.plan.CallKind.TheVariants.{OpenIn, OpenOut, Read, Write, CloseOut}
use Rattle.ccsl_edge.specs.Order.{index_of}
use Rattle.ccsl_edge.specs.World.{SlotState, State, Told, risen, file_at}
use Rattle.ccsl_edge.specs.SlotTable.{slot_in, slots_at_start}

-- its place in the order of the kinds, from 0
abbrev pub kind_index : CallKind → ℕ
kind_index OpenIn = 0
kind_index OpenOut = 1
kind_index Read = 2
kind_index Write = 3
kind_index CloseOut = 4

-- which calls are made to fail, and how many there were
pub record Plan : Type 0 where
  -- the pair of a kind and i makes the i-th call of that kind fail, counted from 1
  pub failing : List (CallKind × ℕ)
  -- how many calls of each kind there were, in the order of the kinds
  pub calls : List ℕ

pub record MemoryState : Type 0 where
  pub files : List (List ℕ × List ℕ)
  -- what stands of each slot, in the order of the slots
  pub slots : List SlotState
  pub plan : Plan
  -- the most bytes that one read or write moves
  pub piece : ℕ
  -- how many calls failed for a want of memory of the world's own
  pub starved : ℕ

-- the number of the next call of this kind, from 1; it stands still at the last value of a counter
abbrev pub next_call : Plan → CallKind → ℕ
next_call plan kind = risen (slice_index plan.calls (kind_index kind))

-- the next call of this kind is made to fail
abbrev pub IsListed : Plan → CallKind → Type 0
IsListed plan kind = Contains plan.failing (kind, next_call plan kind)

-- the plan after a call of this kind
abbrev pub counted : Plan → CallKind → Plan
counted plan kind = record plan { calls = slice_set plan.calls (kind_index kind) (next_call plan kind) }

-- a world in memory at the start
abbrev pub memory_at_start : List (List ℕ × List ℕ) → List (CallKind × ℕ) → ℕ → MemoryState
memory_at_start files failing piece = record {
  files = files;
  slots = slots_at_start;
  plan = record { failing = failing; calls = 0 ∷ 0 ∷ 0 ∷ 0 ∷ 0 ∷ [] };
  piece = piece;
  starved = 0;
}

-- the same world with these bytes left in `Input`
abbrev pub with_bytes : MemoryState → List ℕ → MemoryState
with_bytes w bytes =
    record w { slots = slice_set w.slots (index_of Input) (record (slot_in w.slots Input) { left = bytes }) }

-- the state that a world in memory shows
abbrev pub shown : MemoryState → State
shown w = record { files = w.files; slot_of = slot_in w.slots }

-- it tells everything
abbrev pub tells_all : Told
tells_all = record { files = true; left = true; written = true }

-- no file of this name is held
abbrev pub IsMissing : MemoryState → List ℕ → Type 0
IsMissing w name = IsNone (file_at w.files name)

-- the slot has counted one fault more
abbrev pub CountsFault : Slot → MemoryState → MemoryState → Type 0
CountsFault slot old new = (slot_in new.slots slot).faults ≡ risen (slot_in old.slots slot).faults

-- What each call of a world in memory does beside what every world's call does: it is counted.
pub record Counts (kind : CallKind) (old new : MemoryState) : Type 0 where
  pub plan : new.plan ≡ counted old.plan kind
  pub piece : new.piece ≡ old.piece

-- A call succeeded: it was not made to fail, and no other cause stood.
pub record Succeeds (kind : CallKind) (cause : Type 0) (old new : MemoryState) : Type 0 where
  pub unlisted : ¬ IsListed old.plan kind
  pub uncaused : ¬ cause
  pub starved : new.starved ≡ old.starved

-- A call failed by the list or by another cause.
pub record FailsByCause (kind : CallKind) (cause : Type 0) (old new : MemoryState) : Type 0 where
  pub why : IsListed old.plan kind ⊎ cause
  pub starved : new.starved ≡ old.starved

-- A call failed for a want of memory of the world's own, which is counted.
pub record Starves (kind : CallKind) (cause : Type 0) (old new : MemoryState) : Type 0 where
  pub unlisted : ¬ IsListed old.plan kind
  pub uncaused : ¬ cause
  pub starved : new.starved ≡ risen old.starved

abbrev pub FailsOrStarves : CallKind → Type 0 → MemoryState → MemoryState → Type 0
FailsOrStarves kind cause old new = FailsByCause kind cause old new ⊎ Starves kind cause old new
