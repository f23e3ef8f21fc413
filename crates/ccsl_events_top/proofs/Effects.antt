-- What a run leaves of a world, one stage after another.
use Rattle.std.proofs.Common.{◌≡◌, ◌≢◌, ℕ, List, inl, inr, ap, ◌∙◌, refl}
use Rattle.ccsl_edge.specs.declared.slot.Slot.{Slot}
use Rattle.ccsl_edge.specs.declared.slot.Slot.TheVariants as slots
use Rattle.ccsl_edge.specs.World.{State, SlotState, Told}
use Rattle.ccsl_edge.specs.Calls.{Fails, OpensOut, Closes}
use Rattle.ccsl_edge.proofs.Slots.{slot_cases}
use Rattle.ccsl_events_top.specs.declared.sink.Sink.{Sink}
use Rattle.ccsl_events_top.specs.declared.sink.Sink.TheVariants.{Standard, File}
use Rattle.ccsl_events_top.specs.Streams.{Streams, slot_of}
use Rattle.ccsl_events_top.specs.Effects.{IsRead, IsAddedTo, MayBecome, Stays}

-- ## One slot

-- no more than the bytes left and the faults are others
pub read-is : (a b : SlotState) (left : List ℕ) (faults : ℕ) → b ≡ record a { left = left; faults = faults } → IsRead a b
read-is a b left faults e = record {
  written = ap (λ (x : SlotState). x.written) e;
  name = ap (λ (x : SlotState). x.name) e;
  is_open = ap (λ (x : SlotState). x.is_open) e;
}

pub read-same : (a b : SlotState) → b ≡ a → IsRead a b
read-same a b e = read-is a b a.left a.faults e

pub read-then : (a b c : SlotState) → IsRead a b → IsRead b c → IsRead a c
read-then a b c p q = record { written = q.written ∙ p.written; name = q.name ∙ p.name; is_open = q.is_open ∙ p.is_open }

-- no more than what was written and the faults are others
pub added-is : (a b : SlotState) (written : List ℕ) (faults : ℕ) → b ≡ record a { written = written; faults = faults } → IsAddedTo a b
added-is a b written faults e = record {
  left = ap (λ (x : SlotState). x.left) e;
  name = ap (λ (x : SlotState). x.name) e;
  is_open = ap (λ (x : SlotState). x.is_open) e;
}

pub added-same : (a b : SlotState) → b ≡ a → IsAddedTo a b
added-same a b e = added-is a b a.written a.faults e

pub added-then : (a b c : SlotState) → IsAddedTo a b → IsAddedTo b c → IsAddedTo a c
added-then a b c p q = record { left = q.left ∙ p.left; name = q.name ∙ p.name; is_open = q.is_open ∙ p.is_open }

may-same : (sink : Sink) (slot : Slot) (a b : SlotState) → b ≡ a → MayBecome sink slot a b
may-same sink slots.Spec a b e = read-same a b e
may-same sink slots.Trace a b e = read-same a b e
may-same sink slots.Cert a b e = e
may-same sink slots.Input a b e = e
may-same Standard slots.Report a b e = added-same a b e
may-same File slots.Report a b e = e
may-same Standard slots.TraceOut a b e = e
may-same File slots.TraceOut a b e = ap (λ (x : SlotState). x.left) e
may-same sink slots.CertOut a b e = e

may-then : (sink : Sink) (slot : Slot) (a b c : SlotState) → MayBecome sink slot a b → MayBecome sink slot b c → MayBecome sink slot a c
may-then sink slots.Spec a b c p q = read-then a b c p q
may-then sink slots.Trace a b c p q = read-then a b c p q
may-then sink slots.Cert a b c p q = q ∙ p
may-then sink slots.Input a b c p q = q ∙ p
may-then Standard slots.Report a b c p q = added-then a b c p q
may-then File slots.Report a b c p q = q ∙ p
may-then Standard slots.TraceOut a b c p q = q ∙ p
may-then File slots.TraceOut a b c p q = q ∙ p
may-then sink slots.CertOut a b c p q = q ∙ p

may-out : (sink : Sink) (a b : SlotState) → b ≡ record a { written = b.written; faults = b.faults } → MayBecome sink (slot_of sink) a b
may-out Standard a b e = added-is a b _ _ e
may-out File a b e = ap (λ (x : SlotState). x.left) e

-- ## All slots

pub stays-none : (sink : Sink) (s : State) → Stays sink s s
stays-none sink s slots.Spec = record { written = refl; name = refl; is_open = refl }
stays-none sink s slots.Trace = record { written = refl; name = refl; is_open = refl }
stays-none sink s slots.Cert = refl
stays-none sink s slots.Input = refl
stays-none Standard s slots.Report = added-same _ _ refl
stays-none File s slots.Report = refl
stays-none Standard s slots.TraceOut = refl
stays-none File s slots.TraceOut = refl
stays-none sink s slots.CertOut = refl

pub stays-then : (sink : Sink) (s t u : State) → Stays sink s t → Stays sink t u → Stays sink s u
stays-then sink s t u p q slot = may-then sink slot (s.slot_of slot) (t.slot_of slot) (u.slot_of slot) (p slot) (q slot)

-- where the others are as they were
pub stays-by : (sink : Sink) (slot : Slot) (s t : State) → ((other : Slot) → other ≢ slot → t.slot_of other ≡ s.slot_of other)
    → MayBecome sink slot (s.slot_of slot) (t.slot_of slot) → Stays sink s t
stays-by sink slot s t others here any =
    elim (slot_cases any slot) [
      | inl same ↦ rw same here
      | inr apart ↦ may-same sink any (s.slot_of any) (t.slot_of any) (others any apart)
    ]

pub stays-streams : (told : Told) (sink : Sink) (read written : List ℕ) (s t : State) → Streams told sink read written s t → Stays sink s t
stays-streams told sink read written s t p any =
    elim (slot_cases any slots.Trace) [
      | inl same ↦ rw same (read-is (s.slot_of slots.Trace) (t.slot_of slots.Trace) _ _ p.trace)
      | inr apart ↦ elim (slot_cases any (slot_of sink)) [
        | inl same ↦ rw same (may-out sink (s.slot_of (slot_of sink)) (t.slot_of (slot_of sink)) p.out)
        | inr other ↦ may-same sink any (s.slot_of any) (t.slot_of any) (p.others any apart other)
      ]
    ]

pub stays-open : (told : Told) (name : List ℕ) (s t : State) → OpensOut told slots.TraceOut name s t → Stays File s t
stays-open told name s t p = stays-by File slots.TraceOut s t p.only.others (ap (λ (x : SlotState). x.left) p.here)

pub stays-close : (told : Told) (s t : State) → Closes told slots.TraceOut s t → Stays File s t
stays-close told s t p = stays-by File slots.TraceOut s t p.others (ap (λ (x : SlotState). x.left) p.here)

pub stays-failed : (s t : State) → Fails slots.TraceOut s t → Stays File s t
stays-failed s t p = stays-by File slots.TraceOut s t p.only.others (ap (λ (x : SlotState). x.left) p.here)
