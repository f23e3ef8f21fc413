-- What reading a dump and writing a trace does to a world.
use Rattle.std.specs.Prelude.{◌≡◌, ◌≢◌, ℕ, List, ◌++◌, IsTrue}
use Rattle.ccsl_edge.specs.declared.slot.Slot.{Slot}
use Rattle.ccsl_edge.specs.declared.slot.Slot.TheVariants.{Trace, TraceOut, Report}
use Rattle.ccsl_edge.specs.World.{State, Told, Rose}
use Rattle.ccsl_events_top.specs.declared.sink.Sink.{Sink}
use Rattle.ccsl_events_top.specs.declared.sink.Sink.TheVariants.{Standard, File}

-- the slot through which the trace of events is written
abbrev pub slot_of : Sink → Slot
slot_of Standard = Report
slot_of File = TraceOut

-- These bytes of the dump were read and these of the trace were written, and nothing else has changed but counts of faults.
pub record Streams (told : Told) (sink : Sink) (read written : List ℕ) (old new : State) : Type 0 where
  pub files : new.files ≡ old.files
  pub others : (slot : Slot) → slot ≢ Trace → slot ≢ slot_of sink → new.slot_of slot ≡ old.slot_of slot
  pub trace :
      new.slot_of Trace
      ≡ record (old.slot_of Trace) { left = (new.slot_of Trace).left; faults = (new.slot_of Trace).faults }
  pub out :
      new.slot_of (slot_of sink)
      ≡ record (old.slot_of (slot_of sink)) { written = (new.slot_of (slot_of sink)).written; faults = (new.slot_of (slot_of sink)).faults }
  pub taken : IsTrue told.left → (old.slot_of Trace).left ≡ read ++ (new.slot_of Trace).left
  pub grown : IsTrue told.written → (new.slot_of (slot_of sink)).written ≡ (old.slot_of (slot_of sink)).written ++ written

-- a call on the slot failed: its count rose, or stands at its last value
abbrev pub RoseAt : Slot → State → State → Type 0
RoseAt slot old new = Rose (old.slot_of slot).faults (new.slot_of slot).faults
