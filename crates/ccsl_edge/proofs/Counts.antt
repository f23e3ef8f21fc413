-- The counts of faults: a call that succeeds leaves them all, and none of them ever falls.
use Rattle.std.proofs.Common.{◌≡◌, ◌≢◌, ℕ, ◌≤◌, List, inl, inr, refl, sym, ap, ◌∙◌, arith}
use Rattle.ccsl_edge.specs.declared.slot.Slot.{Slot}
use Rattle.ccsl_edge.specs.World.{State, SlotState, Told}
use Rattle.ccsl_edge.specs.Counts.{SameCounts, NoCountFalls}
use Rattle.ccsl_edge.specs.Calls.{Fails, OpensIn, Reads, OpensOut, Adds, AddsFront, Closes}
use Rattle.ccsl_edge.proofs.Slots.{slot_cases}

pub SameCounts-none : (s : State) → SameCounts s s
SameCounts-none s = record { same = λ _. refl }

pub SameCounts-then : (s t u : State) → SameCounts s t → SameCounts t u → SameCounts s u
SameCounts-then s t u p q = record { same = λ slot. q.same slot ∙ p.same slot }

pub SameCounts-NoCountFalls : (s t : State) → SameCounts s t → NoCountFalls s t
SameCounts-NoCountFalls s t p = record { rises = λ slot. omega (arith, p.same slot) }

pub NoCountFalls-then : (s t u : State) → NoCountFalls s t → NoCountFalls t u → NoCountFalls s u
NoCountFalls-then s t u p q = record { rises = λ slot. omega (arith, p.rises slot, q.rises slot) }

-- where the other slots are as they were, the counts stand by this slot's
same_by_slot : (slot : Slot) (s t : State) → ((other : Slot) → other ≢ slot → t.slot_of other ≡ s.slot_of other)
    → (t.slot_of slot).faults ≡ (s.slot_of slot).faults → SameCounts s t
same_by_slot slot s t others here = record {
  same = λ any.
      elim (slot_cases any slot) [
        | inl same ↦ ap (λ k. (t.slot_of k).faults) same ∙ here ∙ ap (λ k. (s.slot_of k).faults) (sym same)
        | inr apart ↦ ap (λ (x : SlotState). x.faults) (others any apart)
      ];
}

rises_by_slot : (slot : Slot) (s t : State) → ((other : Slot) → other ≢ slot → t.slot_of other ≡ s.slot_of other)
    → (s.slot_of slot).faults ≤ (t.slot_of slot).faults → NoCountFalls s t
rises_by_slot slot s t others here = record {
  rises = λ any.
      elim (slot_cases any slot) [
        | inl same ↦ rw same here
        | inr apart ↦ omega (arith, ap (λ (x : SlotState). x.faults) (others any apart))
      ];
}

pub OpensIn-SameCounts : (told : Told) (slot : Slot) (name : List ℕ) (s t : State) → OpensIn told slot name s t → SameCounts s t
OpensIn-SameCounts told slot name s t p = same_by_slot slot s t p.only.others (ap (λ (x : SlotState). x.faults) p.here)

pub OpensOut-SameCounts : (told : Told) (slot : Slot) (name : List ℕ) (s t : State) → OpensOut told slot name s t → SameCounts s t
OpensOut-SameCounts told slot name s t p = same_by_slot slot s t p.only.others (ap (λ (x : SlotState). x.faults) p.here)

pub Closes-SameCounts : (told : Told) (slot : Slot) (s t : State) → Closes told slot s t → SameCounts s t
Closes-SameCounts told slot s t p = same_by_slot slot s t p.others (ap (λ (x : SlotState). x.faults) p.here)

pub Reads-SameCounts : (told : Told) (slot : Slot) (bytes : List ℕ) (s t : State) → Reads told slot bytes s t → SameCounts s t
Reads-SameCounts told slot bytes s t p = same_by_slot slot s t p.only.others (ap (λ (x : SlotState). x.faults) p.here)

pub Adds-SameCounts : (told : Told) (slot : Slot) (bytes : List ℕ) (s t : State) → Adds told slot bytes s t → SameCounts s t
Adds-SameCounts told slot bytes s t p = same_by_slot slot s t p.only.others (ap (λ (x : SlotState). x.faults) p.here)

pub Fails-NoCountFalls : (slot : Slot) (s t : State) → Fails slot s t → NoCountFalls s t
Fails-NoCountFalls slot s t p = rises_by_slot slot s t p.only.others p.rose.0

pub AddsFront-NoCountFalls : (told : Told) (slot : Slot) (bytes : List ℕ) (s t : State)
    → AddsFront told slot bytes s t → NoCountFalls s t
AddsFront-NoCountFalls told slot bytes s t p = rises_by_slot slot s t p.only.others p.rose.0
