-- What reading and writing files leaves of a world.
use Rattle.std.specs.Prelude.{◌≡◌, ℕ, ◌≤◌, List, Bool, true, false, IsTrue}
use Rattle.ccsl_edge.specs.declared.slot.Slot.{Slot}
use Rattle.ccsl_edge.specs.declared.slot.Slot.TheVariants.{TraceOut, CertOut}
use Rattle.ccsl_edge.specs.World.{State, Told, file_at}
use Rattle.ccsl_command.specs.Opened.{Opened}
use Rattle.ccsl_top.specs.Opening.{writes, is_output}

-- no file has changed, and of the slots that are used only the bytes left and the faults, which are not fewer
pub record Uses (used : Slot → Bool) (old new : State) : Type 0 where
  pub files : new.files ≡ old.files
  pub here : (slot : Slot) → used slot ≡ true →
      new.slot_of slot ≡ record (old.slot_of slot) { left = (new.slot_of slot).left; faults = (new.slot_of slot).faults }
  pub rises : (slot : Slot) → used slot ≡ true → (old.slot_of slot).faults ≤ (new.slot_of slot).faults
  pub others : (slot : Slot) → used slot ≡ false → new.slot_of slot ≡ old.slot_of slot

-- and no call failed
pub record Reads (used : Slot → Bool) (old new : State) : Type 0 where
  pub uses : Uses used old new
  pub counts : (slot : Slot) → (new.slot_of slot).faults ≡ (old.slot_of slot).faults

-- only the output slots of the files have changed, and files; no count fell
pub record WritesAlone (old new : State) : Type 0 where
  pub others : (slot : Slot) → is_output slot ≡ false → new.slot_of slot ≡ old.slot_of slot
  pub rises : (slot : Slot) → (old.slot_of slot).faults ≤ (new.slot_of slot).faults

-- what stays while a command opens these files and uses some of their slots
pub record Stays (told : Told) (opened : List Opened) (used : Slot → Bool) (old new : State) : Type 0 where
  -- every file, where no output slot is used; and else every other file
  pub unwritten : used TraceOut ≡ false → used CertOut ≡ false → new.files ≡ old.files
  pub files : IsTrue told.files → IsTrue told.written → (name : List ℕ) → writes opened name ≡ false → file_at new.files name ≡ file_at old.files name
  -- of a slot that is no output all but the bytes left and the faults, and every slot that is not used
  pub inputs : (slot : Slot) → is_output slot ≡ false →
      new.slot_of slot ≡ record (old.slot_of slot) { left = (new.slot_of slot).left; faults = (new.slot_of slot).faults }
  pub others : (slot : Slot) → used slot ≡ false → new.slot_of slot ≡ old.slot_of slot
  pub rises : (slot : Slot) → (old.slot_of slot).faults ≤ (new.slot_of slot).faults
