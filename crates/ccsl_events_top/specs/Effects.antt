-- What a run may change of a world.
use Rattle.std.specs.Prelude.{◌≡◌, ℕ, List, Option, Some, None}
use Rattle.ccsl_edge.specs.declared.slot.Slot.{Slot}
use Rattle.ccsl_edge.specs.declared.slot.Slot.TheVariants as slots
use Rattle.ccsl_edge.specs.World.{State, SlotState}
use Rattle.ccsl_events_top.specs.declared.sink.Sink.{Sink}
use Rattle.ccsl_events_top.specs.declared.sink.Sink.TheVariants.{Standard, File}

-- where the trace goes: to the file that is named, or to standard output
abbrev pub sink_of : Option (List ℕ) → Sink
sink_of None = Standard
sink_of (Some name) = File

-- of an input no more than the bytes left and the faults has changed
pub record IsRead (old new : SlotState) : Type 0 where
  pub written : new.written ≡ old.written
  pub name : new.name ≡ old.name
  pub is_open : new.is_open ≡ old.is_open

-- of an output that stays open no more than what was written and the faults
pub record IsAddedTo (old new : SlotState) : Type 0 where
  pub left : new.left ≡ old.left
  pub name : new.name ≡ old.name
  pub is_open : new.is_open ≡ old.is_open

-- The file of events and the dump are read, the trace is written where it goes, and no other slot is touched.
abbrev pub MayBecome : Sink → Slot → SlotState → SlotState → Type 0
MayBecome sink slots.Spec old new = IsRead old new
MayBecome sink slots.Trace old new = IsRead old new
MayBecome Standard slots.Report old new = IsAddedTo old new
MayBecome File slots.TraceOut old new = new.left ≡ old.left
MayBecome sink slot old new = new ≡ old

abbrev pub Stays : Sink → State → State → Type 0
Stays sink old new = (slot : Slot) → MayBecome sink slot (old.slot_of slot) (new.slot_of slot)
