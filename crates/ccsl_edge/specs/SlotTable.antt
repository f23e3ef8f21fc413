-- What stands of all the slots, as a list in their order.
use Rattle.std.specs.Prelude.{Bool, true, false, List, [], ◌∷◌, slice_index_or}
use Rattle.ccsl_edge.specs.declared.slot.Slot.{Slot}
use Rattle.ccsl_edge.specs.Order.{index_of}
use Rattle.ccsl_edge.specs.World.{SlotState, State}

-- a slot that was never used
abbrev pub unused : Bool → SlotState
unused is_open = record { left = []; written = []; name = []; is_open = is_open; faults = 0 }

abbrev pub slot_in : List SlotState → Slot → SlotState
slot_in slots slot = slice_index_or slots (index_of slot) (unused false)

-- the slots at the start: of the output slots only `Report` is open
abbrev pub slots_at_start : List SlotState
slots_at_start =
    unused false ∷ unused false ∷ unused false ∷ unused false ∷ unused true ∷ unused false ∷ unused false ∷ []

-- what stands of the slots, in their order, with no files told
abbrev pub file_state : List SlotState → State
file_state slots = record { files = []; slot_of = slot_in slots }
