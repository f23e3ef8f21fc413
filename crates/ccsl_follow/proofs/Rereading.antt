-- Files that are read once more: each call leaves what it does not read, and so do calls in a row.
use Rattle.std.proofs.Common.{◌≡◌, ◌≤◌, ℕ, List, true, false, inl, inr, refl, sym, ap, ◌∙◌, arith}
use Rattle.ccsl_edge.specs.declared.slot.Slot.{Slot}
use Rattle.ccsl_edge.specs.declared.slot.Slot.TheVariants.{Spec, Trace, Cert, Input, Report, TraceOut, CertOut}
use Rattle.ccsl_edge.specs.declared.whole.ReadFault.{ReadFault}
use Rattle.ccsl_edge.specs.declared.whole.ReadFault.TheVariants as read
use Rattle.ccsl_edge.specs.World.{State, SlotState, Told}
use Rattle.ccsl_edge.specs.Slots.{IsInputFile}
use Rattle.ccsl_edge.specs.Counts.{SameCounts}
use Rattle.ccsl_edge.specs.Calls.{ChangesOnly, Fails, OpensIn, Reads, ReadsThenFails, ReadsUntil}
use Rattle.ccsl_edge.proofs.Slots.{slot_cases}
use Rattle.ccsl_edge.proofs.Counts.{Reads-SameCounts}
use Rattle.ccsl_vcd.specs.declared.limits.Limits.{Limits}
use Rattle.ccsl_vcd.specs.Binding.{Wanted}
use Rattle.ccsl_trace.specs.declared.fault.TraceFault.{TraceFault}
use Rattle.ccsl_trace.specs.declared.fault.TraceFault.TheVariants as trace
use Rattle.ccsl_trace.specs.Traces.{IsUnread}
use Rattle.ccsl_follow.specs.OnlyReads.{OnlyReads, is_file_read}

pub file-read : (slot : Slot) → IsInputFile slot → is_file_read slot ≡ true
file-read Spec h = refl
file-read Trace h = refl
file-read Cert h = refl
file-read Input h = absurd h
file-read Report h = absurd h
file-read TraceOut h = absurd h
file-read CertOut h = absurd h

pub only-then : (s t u : State) → OnlyReads s t → OnlyReads t u → OnlyReads s u
only-then s t u p q = record {
  files = q.files ∙ p.files;
  others = λ slot no. q.others slot no ∙ p.others slot no;
  here = λ slot.
      q.here slot
      ∙ ap (λ (x : SlotState). record x { left = (u.slot_of slot).left; faults = (u.slot_of slot).faults }) (p.here slot);
  rises = λ slot. omega (arith, p.rises slot, q.rises slot);
}

-- a change of one slot, through which a file is read
record Reread (a b : SlotState) : Type 0 where
  is : b ≡ record a { left = b.left; faults = b.faults }
  rises : a.faults ≤ b.faults

by-slot : (slot : Slot) (s t : State) → is_file_read slot ≡ true → ChangesOnly slot s t → Reread (s.slot_of slot) (t.slot_of slot) → OnlyReads s t
by-slot slot s t reads only here = record {
  files = only.files;
  others = λ other no. only.others other (λ same. (let clash : true ≡ false = sym reads ∙ ap is_file_read (sym same) ∙ no in cc));
  here = λ other.
      elim (slot_cases other slot) [
        | inl same ↦ rw same here.is
        | inr apart ↦
            let e = only.others other apart in
            e ∙ ap (λ (x : SlotState). record (s.slot_of other) { left = x.left; faults = x.faults }) (sym e)
      ];
  rises = λ other.
      elim (slot_cases other slot) [
        | inl same ↦ rw same here.rises
        | inr apart ↦ omega (arith, ap (λ (x : SlotState). x.faults) (only.others other apart))
      ];
}

less-left : (a b : SlotState) → b ≡ record a { left = b.left } → Reread a b
less-left a b e =
    let same : b.faults ≡ a.faults = ap (λ (x : SlotState). x.faults) e in
    record { is = e ∙ ap (λ n. record a { left = b.left; faults = n }) (sym same); rises = omega (arith, same) }

more-faults : (a b : SlotState) → b ≡ record a { faults = b.faults } → a.faults ≤ b.faults → Reread a b
more-faults a b e rises =
    let same : b.left ≡ a.left = ap (λ (x : SlotState). x.left) e in
    record { is = e ∙ ap (λ w. record a { left = w; faults = b.faults }) (sym same); rises = rises }

module _ (told : Told) (slot : Slot) (s t : State) (reads : is_file_read slot ≡ true) where
  pub only-opens : (name : List ℕ) → OpensIn told slot name s t → OnlyReads s t
  only-opens name p = by-slot slot s t reads p.only (less-left _ _ p.here)

  pub only-fails : Fails slot s t → OnlyReads s t
  only-fails p = by-slot slot s t reads p.only (more-faults _ _ p.here p.rose.0)

  pub only-reads : (bytes : List ℕ) → Reads told slot bytes s t → OnlyReads s t
  only-reads bytes p = by-slot slot s t reads p.only (less-left _ _ p.here)

  pub only-breaks : (bytes : List ℕ) → ReadsThenFails told slot bytes s t → OnlyReads s t
  only-breaks bytes p = by-slot slot s t reads p.only (record { is = p.here; rises = p.rose.0 })

  pub only-until : (limit : ℕ) (fault : ReadFault) → ReadsUntil fault told slot limit s t → OnlyReads s t
  only-until limit read.Fault p = only-breaks p.bytes p.fails
  only-until limit read.TooLong p = only-reads p.bytes p.reads
  only-until limit read.Memory p = only-reads p.bytes p.reads

-- what two states were read from that stand in a row
between : (a b c : SlotState) → b ≡ record a { left = b.left } → Reread a c → Reread b c
between a b c p q =
    let same : b.faults ≡ a.faults = ap (λ (x : SlotState). x.faults) p in
    record {
      is = q.is ∙ sym (ap (λ (x : SlotState). record x { left = c.left; faults = c.faults }) p);
      rises = omega (arith, same, q.rises);
    }

module _ (told : Told) (a : List ℕ) (s t u : State) (first : Reads told Trace a s t) where
  only-changes : ChangesOnly Trace s u → ChangesOnly Trace t u
  only-changes p = record {
    files = p.files ∙ sym first.only.files;
    others = λ other apart. p.others other apart ∙ sym (first.only.others other apart);
  }

  read-on : Reread (s.slot_of Trace) (u.slot_of Trace) → Reread (t.slot_of Trace) (u.slot_of Trace)
  read-on p = between (s.slot_of Trace) (t.slot_of Trace) (u.slot_of Trace) first.here p

  pub only-on : (b : List ℕ) → Reads told Trace b s u → OnlyReads t u
  only-on b p = by-slot Trace t u refl (only-changes p.only) (read-on (less-left (s.slot_of Trace) (u.slot_of Trace) p.here))

  only-broken : (b : List ℕ) → ReadsThenFails told Trace b s u → OnlyReads t u
  only-broken b p = by-slot Trace t u refl (only-changes p.only) (read-on (record { is = p.here; rises = p.rose.0 }))

  pub only-unread : (wanted : Wanted) (limits : Limits) (fault : TraceFault) → IsUnread told wanted limits s u fault → OnlyReads t u
  only-unread wanted limits trace.Fault p = only-broken p.bytes p.reads
  only-unread wanted limits (trace.Refused f) p = only-on p.bytes p.reads
  only-unread wanted limits trace.Memory p = only-on p.bytes p.reads

  pub calm-on : (b : List ℕ) → Reads told Trace b s u → SameCounts t u
  calm-on b p =
      let before = Reads-SameCounts told Trace a s t first in
      let after = Reads-SameCounts told Trace b s u p in
      record { same = λ slot. after.same slot ∙ sym (before.same slot) }
