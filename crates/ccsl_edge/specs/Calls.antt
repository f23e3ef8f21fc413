-- What one call, or a row of calls, does to a world: one relation for each outcome, between the state before and
-- the state after.
use Rattle.std.specs.Prelude.{◌≡◌, ◌≢◌, ℕ, ◌+◌, ◌<◌, ◌≤◌, List, [], ◌++◌, length, take, IsTrue, true, false}
use Rattle.ccsl_base.specs.declared.limits.TheConstants.{PIECE}
use Rattle.ccsl_edge.specs.declared.slot.Slot.{Slot}
use Rattle.ccsl_edge.specs.declared.whole.ReadFault.{ReadFault}
use Rattle.ccsl_edge.specs.declared.whole.ReadFault.TheVariants.{Fault, TooLong, Memory}
use Rattle.ccsl_edge.specs.World.{State, Told, Rose, held}
use Rattle.ccsl_edge.specs.Stored.{Stores}

-- nothing but this slot has changed
pub record ChangesOnly (slot : Slot) (old new : State) : Type 0 where
  pub files : new.files ≡ old.files
  pub others : (other : Slot) → other ≢ slot → new.slot_of other ≡ old.slot_of other

-- A call on the slot failed: its count rose, and all else is as it was.
pub record Fails (slot : Slot) (old new : State) : Type 0 where
  pub only : ChangesOnly slot old new
  pub here : new.slot_of slot ≡ record (old.slot_of slot) { faults = (new.slot_of slot).faults }
  pub rose : Rose (old.slot_of slot).faults (new.slot_of slot).faults

-- An input slot was opened: its bytes left are those of the named file, and none where no such file is held.
pub record OpensIn (told : Told) (slot : Slot) (name : List ℕ) (old new : State) : Type 0 where
  pub only : ChangesOnly slot old new
  pub here : new.slot_of slot ≡ record (old.slot_of slot) { left = (new.slot_of slot).left }
  pub bytes : IsTrue told.files → IsTrue told.left → (new.slot_of slot).left ≡ held old.files name

-- These bytes, in order, were taken from the slot, and nothing else has changed.
pub record Reads (told : Told) (slot : Slot) (bytes : List ℕ) (old new : State) : Type 0 where
  pub only : ChangesOnly slot old new
  pub here : new.slot_of slot ≡ record (old.slot_of slot) { left = (new.slot_of slot).left }
  pub taken : IsTrue told.left → (old.slot_of slot).left ≡ bytes ++ (new.slot_of slot).left

-- One read: so many of the next bytes went to the front of the buffer, none only at the end of the input.
pub record Takes (told : Told) (slot : Slot) (count : ℕ) (old new : State) (buf : List ℕ) : Type 0 where
  pub within : count ≤ length buf
  pub reads : Reads told slot (take count buf) old new
  pub ended : IsTrue told.left → count ≡ 0 → (old.slot_of slot).left ≡ []

-- One read into an empty piece: so many of the next bytes, at most one more than may be taken, are in the piece but for that one;
-- none were read only at the end of the input.
pub record Refills (told : Told) (slot : Slot) (left count : ℕ) (old new : State) (piece : List ℕ) : Type 0 where
  pub bytes : List ℕ
  pub count_is : length bytes ≡ count
  pub within : count ≤ left + 1
  pub few : count ≤ PIECE
  pub reads : Reads told slot bytes old new
  pub piece_is : piece ≡ take left bytes
  pub ended : IsTrue told.left → count ≡ 0 → (new.slot_of slot).left ≡ []

-- These bytes were taken from the slot, and then a call failed.
pub record ReadsThenFails (told : Told) (slot : Slot) (bytes : List ℕ) (old new : State) : Type 0 where
  pub only : ChangesOnly slot old new
  pub here :
      new.slot_of slot
      ≡ record (old.slot_of slot) { left = (new.slot_of slot).left; faults = (new.slot_of slot).faults }
  pub taken : IsTrue told.left → (old.slot_of slot).left ≡ bytes ++ (new.slot_of slot).left
  pub rose : Rose (old.slot_of slot).faults (new.slot_of slot).faults

-- An output slot was opened under this name, with no bytes written yet.
pub record OpensOut (told : Told) (slot : Slot) (name : List ℕ) (old new : State) : Type 0 where
  pub only : ChangesOnly slot old new
  pub here :
      new.slot_of slot
      ≡ record (old.slot_of slot) { written = (new.slot_of slot).written; name = (new.slot_of slot).name; is_open = true }
  pub empty : IsTrue told.written → (new.slot_of slot).written ≡ []
  pub named : IsTrue told.written → (new.slot_of slot).name ≡ name

-- These bytes were added to what is written, and nothing else has changed.
pub record Adds (told : Told) (slot : Slot) (bytes : List ℕ) (old new : State) : Type 0 where
  pub only : ChangesOnly slot old new
  pub here : new.slot_of slot ≡ record (old.slot_of slot) { written = (new.slot_of slot).written }
  pub end : IsTrue told.written → (new.slot_of slot).written ≡ (old.slot_of slot).written ++ bytes

-- A front of these bytes was added, and then a call failed.
pub record AddsFront (told : Told) (slot : Slot) (bytes : List ℕ) (old new : State) : Type 0 where
  pub only : ChangesOnly slot old new
  pub here :
      new.slot_of slot
      ≡ record (old.slot_of slot) { written = (new.slot_of slot).written; faults = (new.slot_of slot).faults }
  pub count : ℕ
  pub front : IsTrue told.written → (new.slot_of slot).written ≡ (old.slot_of slot).written ++ take count bytes
  pub rose : Rose (old.slot_of slot).faults (new.slot_of slot).faults

-- An output slot was closed: the file of its name holds what is written, and every other file is as it was.
pub record Closes (told : Told) (slot : Slot) (old new : State) : Type 0 where
  pub others : (other : Slot) → other ≢ slot → new.slot_of other ≡ old.slot_of other
  pub here : new.slot_of slot ≡ record (old.slot_of slot) { is_open = false }
  pub file :
      IsTrue told.files → IsTrue told.written
      → Stores (old.slot_of slot).name (old.slot_of slot).written old.files new.files

-- All that was left was read: at most so many bytes, and none are left.
pub record ReadsAll (told : Told) (slot : Slot) (limit : ℕ) (all : List ℕ) (old new : State) : Type 0 where
  pub within : length all ≤ limit
  pub reads : Reads told slot all old new
  pub whole : IsTrue told.left → (old.slot_of slot).left ≡ all
  pub ended : IsTrue told.left → (new.slot_of slot).left ≡ []

-- More bytes were left than allowed: one more was read, and no further.
pub record ReadsTooMuch (told : Told) (slot : Slot) (limit : ℕ) (old new : State) : Type 0 where
  pub bytes : List ℕ
  pub past : length bytes ≡ limit + 1
  pub reads : Reads told slot bytes old new
  pub more : IsTrue told.left → limit < length (old.slot_of slot).left

-- A call failed before more than the allowed bytes were read.
pub record ReadsIntoFault (told : Told) (slot : Slot) (limit : ℕ) (old new : State) : Type 0 where
  pub bytes : List ℕ
  pub within : length bytes ≤ limit
  pub fails : ReadsThenFails told slot bytes old new

-- Reading was given up before more than the allowed bytes were read.
pub record ReadsPart (told : Told) (slot : Slot) (limit : ℕ) (old new : State) : Type 0 where
  pub bytes : List ℕ
  pub within : length bytes ≤ limit
  pub reads : Reads told slot bytes old new

-- what was read where not all was, by the fault that is answered
abbrev pub ReadsUntil : ReadFault → Told → Slot → ℕ → State → State → Type 0
ReadsUntil Fault told slot limit old new = ReadsIntoFault told slot limit old new
ReadsUntil TooLong told slot limit old new = ReadsTooMuch told slot limit old new
ReadsUntil Memory told slot limit old new = ReadsPart told slot limit old new
