-- WHAT READING FILES ONCE MORE LEAVES of a world.
use Rattle.std.specs.Prelude.{◌≡◌, ◌≤◌, Bool, true, false}
use Rattle.ccsl_edge.specs.declared.slot.Slot.{Slot}
use Rattle.ccsl_edge.specs.declared.slot.Slot.TheVariants.{Spec, Trace, Cert, Input, Report, TraceOut, CertOut}
use Rattle.ccsl_edge.specs.World.{State}

-- a file under a name is read through it
abbrev pub is_file_read : Slot → Bool
is_file_read Spec = true
is_file_read Trace = true
is_file_read Cert = true
is_file_read Input = false
is_file_read Report = false
is_file_read TraceOut = false
is_file_read CertOut = false

-- nothing was written, and of standard input nothing was read
pub record OnlyReads (old new : State) : Type 0 where
  -- every file is as it was
  pub files : new.files ≡ old.files
  -- every slot through which no file is read is as it was
  pub others : (slot : Slot) → is_file_read slot ≡ false → new.slot_of slot ≡ old.slot_of slot
  -- of each slot all is as it was but the bytes left and the count of faults
  pub here : (slot : Slot) →
      new.slot_of slot ≡ record (old.slot_of slot) { left = (new.slot_of slot).left; faults = (new.slot_of slot).faults }
  -- no count of faults fell
  pub rises : (slot : Slot) → (old.slot_of slot).faults ≤ (new.slot_of slot).faults
