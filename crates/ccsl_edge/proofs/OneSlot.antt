-- A world in memory in which one slot has changed.
use Rattle.std.proofs.Common.{◌≡◌, ℕ, ◌<◌, ◌≤◌, List, ◌++◌, false, length, take, drop, get_or, set, min, refl, sym, ap, ◌∙◌, get_or-set_same, get_or-set_other}
use Rattle.std.proofs.Common.{take-append-drop, arith}
use Rattle.std.proofs.lemmas.List.{get_or_default, nil_from_length}
use Rattle.ccsl_edge.specs.declared.slot.Slot.{Slot}
use Rattle.ccsl_edge.specs.Order.{index_of}
use Rattle.ccsl_edge.specs.World.{SlotState, State, Told, Rose, risen}
use Rattle.ccsl_edge.specs.Calls.{ChangesOnly, Fails, Takes, Adds}
use Rattle.ccsl_edge.specs.SlotTable.{slot_in, unused}
use Rattle.ccsl_edge.specs.Memory.{tells_all}
use Rattle.ccsl_edge.proofs.Slots.{same_slot, index_of-lt}

-- the state of these files and slots
abbrev pub state_of : List (List ℕ × List ℕ) → List SlotState → State
state_of files slots = record { files = files; slot_of = slot_in slots }

-- nothing but this slot has changed, from one value to another
pub record SetsSlot (slot : Slot) (was now : SlotState) (old new : State) : Type 0 where
  pub only : ChangesOnly slot old new
  pub was_is : old.slot_of slot ≡ was
  pub now_is : new.slot_of slot ≡ now

pub SetsSlot-at : (files : List (List ℕ × List ℕ)) (slots : List SlotState) (slot : Slot) (i : ℕ) (d now : SlotState)
    → i ≡ index_of slot → length slots ≡ 7
    → SetsSlot slot (get_or slots i d) now (state_of files slots) (state_of files (set slots i now))
SetsSlot-at files slots slot i d now at long =
    let within : i < length slots = omega (arith, index_of-lt slot) in
    record {
      only = record {
        files = refl;
        others = λ other apart.
            get_or-set_other slots i (index_of other) now _ (λ same. apart (same_slot other slot (same ∙ at)));
      };
      was_is = ap (λ k. get_or slots k (unused false)) (sym at) ∙ get_or_default slots i _ d within;
      now_is = ap (λ k. get_or (set slots i now) k (unused false)) (sym at) ∙ get_or-set_same slots i now _ within;
    }

-- one slot has counted a fault
pub Fails-at : (files : List (List ℕ × List ℕ)) (slots : List SlotState) (slot : Slot) (i : ℕ) (d now : SlotState)
    → i ≡ index_of slot → length slots ≡ 7
    → now ≡ record (get_or slots i d) { faults = risen (get_or slots i d).faults } → Rose (get_or slots i d).faults now.faults
    → Fails slot (state_of files slots) (state_of files (set slots i now))
Fails-at files slots slot i d now at long after rose =
    let sets = SetsSlot-at files slots slot i d now at long in
    record {
      only = sets.only;
      here = rw (sets.now_is, sets.was_is, after) refl;
      rose = rw (sets.now_is, sets.was_is) rose;
    }

-- one slot has less left
pub Takes-at : (told : Told) (files : List (List ℕ × List ℕ)) (slots : List SlotState) (slot : Slot) (i : ℕ) (d now : SlotState)
    (count most room : ℕ) (buf : List ℕ)
    → i ≡ index_of slot → length slots ≡ 7
    → now ≡ record (get_or slots i d) { left = drop count (get_or slots i d).left }
    → take count buf ≡ take count (get_or slots i d).left
    → 1 ≤ most → 0 < room → length buf ≡ room → count ≡ min most (min room (length (get_or slots i d).left))
    → Takes told slot count (state_of files slots) (state_of files (set slots i now)) buf
Takes-at told files slots slot i d now count most room buf at long after moved some more has counted =
    let sets = SetsSlot-at files slots slot i d now at long in
    record {
      within = omega arith;
      reads = record {
        only = sets.only;
        here = rw (sets.now_is, sets.was_is, after) refl;
        taken = λ _. rw (sets.now_is, sets.was_is, after, moved) (sym (take-append-drop count (get_or slots i d).left));
      };
      ended = λ _ none.
          ap (λ (x : SlotState). x.left) sets.was_is ∙ nil_from_length (get_or slots i d).left (omega arith);
    }

-- one slot has more written
pub Adds-at : (files : List (List ℕ × List ℕ)) (slots : List SlotState) (slot : Slot) (i : ℕ) (d now : SlotState)
    (bytes : List ℕ)
    → i ≡ index_of slot → length slots ≡ 7
    → now ≡ record (get_or slots i d) { written = (get_or slots i d).written ++ bytes }
    → Adds tells_all slot bytes (state_of files slots) (state_of files (set slots i now))
Adds-at files slots slot i d now bytes at long after =
    let sets = SetsSlot-at files slots slot i d now at long in
    record {
      only = sets.only;
      here = rw (sets.now_is, sets.was_is, after) refl;
      end = λ _. rw (sets.now_is, sets.was_is, after) refl;
    }
