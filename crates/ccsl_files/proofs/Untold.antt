-- A world that tells no content, in which one slot has changed.
use Rattle.std.proofs.Common.{◌≡◌, ℕ, ◌<◌, ◌≤◌, List, [], true, false, length, get_or, set, IsTrue, refl}
use Rattle.ccsl_edge.specs.declared.slot.Slot.{Slot}
use Rattle.ccsl_edge.specs.Order.{index_of}
use Rattle.ccsl_edge.specs.World.{SlotState}
use Rattle.ccsl_edge.specs.Calls.{OpensIn, Takes, OpensOut, Adds, Closes}
use Rattle.ccsl_edge.specs.SlotTable.{file_state}
use Rattle.ccsl_files.specs.FileSystem.{tells_nothing}
use Rattle.ccsl_edge.proofs.OneSlot.{SetsSlot-at}
use Rattle.ccsl_edge.proofs.Slots.{index_of-lt}

-- the place of a slot is one of seven
pub slot-within : (slot : Slot) {i n : ℕ} → i ≡ index_of slot → n ≡ 7 → i < n
slot-within slot at long = rw (at, long) (index_of-lt slot)

-- what is not told says nothing
untold : {P : Type 0} → IsTrue false → P
untold tells = absurd (cc)

pub OpensIn-untold : (slots : List SlotState) (slot : Slot) (i : ℕ) (d now : SlotState) (name : List ℕ)
    → i ≡ index_of slot → length slots ≡ 7 → now ≡ get_or slots i d
    → OpensIn tells_nothing slot name (file_state slots) (file_state (set slots i now))
OpensIn-untold slots slot i d now name at long same =
    let sets = SetsSlot-at [] slots slot i d now at long in
    record { only = sets.only; here = rw (sets.now_is, sets.was_is, same) refl; bytes = λ tells. untold tells }

pub Takes-untold : (slots : List SlotState) (slot : Slot) (i : ℕ) (d now : SlotState) (count : ℕ) (buf : List ℕ)
    → i ≡ index_of slot → length slots ≡ 7 → now ≡ get_or slots i d → count ≤ length buf
    → Takes tells_nothing slot count (file_state slots) (file_state (set slots i now)) buf
Takes-untold slots slot i d now count buf at long same within =
    let sets = SetsSlot-at [] slots slot i d now at long in
    record {
      within = within;
      reads = record { only = sets.only; here = rw (sets.now_is, sets.was_is, same) refl; taken = λ tells. untold tells };
      ended = λ tells _. untold tells;
    }

pub OpensOut-untold : (slots : List SlotState) (slot : Slot) (i : ℕ) (d now : SlotState) (name : List ℕ)
    → i ≡ index_of slot → length slots ≡ 7 → now ≡ record (get_or slots i d) { is_open = true }
    → OpensOut tells_nothing slot name (file_state slots) (file_state (set slots i now))
OpensOut-untold slots slot i d now name at long after =
    let sets = SetsSlot-at [] slots slot i d now at long in
    record {
      only = sets.only;
      here = rw (sets.now_is, sets.was_is, after) refl;
      empty = λ tells. untold tells;
      named = λ tells. untold tells;
    }

pub Adds-untold : (slots : List SlotState) (slot : Slot) (i : ℕ) (d now : SlotState) (bytes : List ℕ)
    → i ≡ index_of slot → length slots ≡ 7 → now ≡ get_or slots i d
    → Adds tells_nothing slot bytes (file_state slots) (file_state (set slots i now))
Adds-untold slots slot i d now bytes at long same =
    let sets = SetsSlot-at [] slots slot i d now at long in
    record { only = sets.only; here = rw (sets.now_is, sets.was_is, same) refl; end = λ tells. untold tells }

pub Closes-untold : (slots : List SlotState) (slot : Slot) (i : ℕ) (d now : SlotState)
    → i ≡ index_of slot → length slots ≡ 7 → now ≡ record (get_or slots i d) { is_open = false }
    → Closes tells_nothing slot (file_state slots) (file_state (set slots i now))
Closes-untold slots slot i d now at long after =
    let sets = SetsSlot-at [] slots slot i d now at long in
    record {
      others = sets.only.others;
      here = rw (sets.now_is, sets.was_is, after) refl;
      file = λ tells _. untold tells;
    }
