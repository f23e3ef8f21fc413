-- Uses of slots, one after the other.
use Rattle.std.proofs.Common.{◌≡◌, ◌≢◌, ◌≤◌, List, Bool, true, false, ◌||◌, refl, sym, ap, ◌∙◌, subst, arith}
use Rattle.ccsl_edge.specs.declared.slot.Slot.{Slot}
use Rattle.ccsl_edge.specs.World.{State, SlotState, Told, file_at}
use Rattle.ccsl_edge.specs.Calls.{ChangesOnly}
use Rattle.ccsl_command.specs.Opened.{Opened}
use Rattle.ccsl_top.specs.Opening.{is_slot, is_output}
use Rattle.ccsl_top.specs.Effects.{RoseAt}
use Rattle.ccsl_top.specs.Changes.{Uses, Reads, Stays, WritesAlone}
use Rattle.ccsl_top.specs.Reading.{only, Breaks}
use Rattle.ccsl_top.proofs.Slots.{is_slot-same, is_slot-differs, output-differs}
use Rattle.std.proofs.lemmas.Bool.{or_parts, both_ways}

-- of a slot only the bytes left and the faults have changed
abbrev pub Changed : SlotState → SlotState → Type 0
Changed a b = b ≡ record a { left = b.left; faults = b.faults }

pub changed-same : (a b : SlotState) → b ≡ a → Changed a b
changed-same a b e = rw e refl

changed-then : (a b c : SlotState) → Changed a b → Changed b c → Changed a c
changed-then a b c p q = q ∙ ap (λ (x : SlotState). let S : SlotState = record x { left = c.left; faults = c.faults } in S) p

pub by-test : {P : Type 0} (b : Bool) → (b ≡ true → P) → (b ≡ false → P) → P
by-test {P} b yes_ no_ = (elim b as (λ t. b ≡ t → P) [ true ↦ yes_ | false ↦ no_ ]) refl

module _ (used : Slot → Bool) (old new : State) (uses : Uses used old new) where
  pub uses-changed : (slot : Slot) → Changed (old.slot_of slot) (new.slot_of slot)
  uses-changed slot = by-test (used slot) (λ yes. uses.here slot yes) (λ no. changed-same (old.slot_of slot) (new.slot_of slot) (uses.others slot no))

  pub uses-rises : (slot : Slot) → (old.slot_of slot).faults ≤ (new.slot_of slot).faults
  uses-rises slot = by-test (used slot) (λ yes. uses.rises slot yes) (λ no. let e = ap (λ s. s.faults) (uses.others slot no) in omega (arith, e))

pub uses-then : (first second : Slot → Bool) (old mid new : State) → Uses first old mid → Uses second mid new → Uses (λ slot. first slot || second slot) old new
uses-then first second old mid new p q = record {
  files = q.files ∙ p.files;
  here = λ slot _. changed-then (old.slot_of slot) (mid.slot_of slot) (new.slot_of slot) (uses-changed first old mid p slot)
      (uses-changed second mid new q slot);
  rises = λ slot _. let a = uses-rises first old mid p slot in let b = uses-rises second mid new q slot in omega (arith, a, b);
  others = λ slot no. q.others slot (or_parts (first slot) (second slot) no).1 ∙ p.others slot (or_parts (first slot) (second slot) no).0;
}

pub reads-then : (first second : Slot → Bool) (old mid new : State) → Reads first old mid → Reads second mid new
    → Reads (λ slot. first slot || second slot) old new
reads-then first second old mid new p q = record {
  uses = uses-then first second old mid new p.uses q.uses;
  counts = λ slot. q.counts slot ∙ p.counts slot;
}

-- nothing was read
pub reads-none : (s : State) → Reads (λ slot. false) s s
reads-none s = record {
  uses = record { files = refl; here = λ slot e. absurd (both_ways false refl e); rises = λ slot e. absurd (both_ways false refl e); others = λ slot e. refl };
  counts = λ slot. refl;
}

module _ (slot : Slot) (old new : State) (alone : ChangesOnly slot old new) where
  here-only : (P : Slot → Type 0) → P slot → (other : Slot) → only slot other ≡ true → P other
  here-only P p other e = subst P (is_slot-same slot other e) p

  others-only : (other : Slot) → only slot other ≡ false → new.slot_of other ≡ old.slot_of other
  others-only other e = alone.others other (is_slot-differs slot other e)

  -- only the bytes left in one slot have changed
  pub reads-only : new.slot_of slot ≡ record (old.slot_of slot) { left = (new.slot_of slot).left } → Reads (only slot) old new
  reads-only here = record {
    uses = record {
      files = alone.files;
      here = here-only (λ s. Changed (old.slot_of s) (new.slot_of s)) (left-changed here);
      rises = here-only (λ s. (old.slot_of s).faults ≤ (new.slot_of s).faults) (let e = ap (λ s. s.faults) here in omega (arith, e));
      others = others-only;
    };
    counts = λ other. by-test (only slot other)
        (here-only (λ s. (new.slot_of s).faults ≡ (old.slot_of s).faults) (ap (λ s. s.faults) here) other)
        (λ e. ap (λ s. s.faults) (others-only other e));
  }
    where
      left-changed : new.slot_of slot ≡ record (old.slot_of slot) { left = (new.slot_of slot).left } → Changed (old.slot_of slot) (new.slot_of slot)
      left-changed e = e ∙ sym (ap (λ n. let S : SlotState =
          record (old.slot_of slot) { left = (new.slot_of slot).left; faults = n } in S) (ap (λ s. s.faults) e))

  -- and a call on it failed
  pub breaks-only : new.slot_of slot ≡ record (old.slot_of slot) { left = (new.slot_of slot).left; faults = (new.slot_of slot).faults } →
      RoseAt slot old new → Breaks slot old new
  breaks-only here rose = record {
    uses = record {
      files = alone.files;
      here = here-only (λ s. Changed (old.slot_of s) (new.slot_of s)) here;
      rises = here-only (λ s. (old.slot_of s).faults ≤ (new.slot_of s).faults) rose.0;
      others = others-only;
    };
    rose = rose;
  }

-- what is only read stays
pub uses-stay : (told : Told) (opened : List Opened) (used : Slot → Bool) (old new : State) → Uses used old new → Stays told opened used old new
uses-stay told opened used old new uses = record {
  unwritten = λ _ _. uses.files;
  files = λ _ _ name _. ap (λ fs. file_at fs name) uses.files;
  inputs = λ slot _. uses-changed used old new uses slot;
  others = uses.others;
  rises = uses-rises used old new uses;
}

-- WRITES to the output slots of the files

pub alone-then : (old mid new : State) → WritesAlone old mid → WritesAlone mid new → WritesAlone old new
alone-then old mid new p q = record {
  others = λ slot no. q.others slot no ∙ p.others slot no;
  rises = λ slot. let a = p.rises slot in let b = q.rises slot in omega (arith, a, b);
}

module _ (slot : Slot) (is : is_output slot ≡ true) (old new : State) (others : (other : Slot) → other ≢ slot → new.slot_of other ≡ old.slot_of other) where
  -- a call on one of them
  pub alone-at : (old.slot_of slot).faults ≤ (new.slot_of slot).faults → WritesAlone old new
  alone-at rise = record {
    others = λ other no. others other (λ same. output-differs other slot no is (sym same));
    rises = λ other. by-test (is_slot slot other)
        (λ yes. subst (λ s. (old.slot_of s).faults ≤ (new.slot_of s).faults) (is_slot-same slot other yes) rise)
        (λ no. let e = ap (λ s. s.faults) (others other (is_slot-differs slot other no)) in omega (arith, e));
  }

  -- one that did not fail
  pub alone-counts : (new.slot_of slot).faults ≡ (old.slot_of slot).faults → (other : Slot) → (new.slot_of other).faults ≡ (old.slot_of other).faults
  alone-counts e other = by-test (is_slot slot other)
      (λ yes. subst (λ s. (new.slot_of s).faults ≡ (old.slot_of s).faults) (is_slot-same slot other yes) e)
      (λ no. ap (λ s. s.faults) (others other (is_slot-differs slot other no)))
