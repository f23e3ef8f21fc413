-- What each call on an output slot leaves.
use Rattle.std.proofs.Common.{◌≡◌, ◌≢◌, ℕ, List, true, refl, ap, ◌∙◌, subst, arith, bytes_eq}
use Rattle.std.proofs.lemmas.Slice.Eq.{bytes_eq-Decides}
use Rattle.ccsl_edge.specs.declared.slot.Slot.{Slot}
use Rattle.ccsl_edge.specs.declared.slot.Slot.TheVariants.{Spec, Trace, Cert, Input, Report, TraceOut, CertOut}
use Rattle.ccsl_edge.specs.World.{State, Told}
use Rattle.ccsl_edge.specs.Calls.{ChangesOnly, Fails, OpensOut, Adds, AddsFront, Closes}
use Rattle.ccsl_top.specs.Opening.{is_slot, is_output}
use Rattle.ccsl_top.specs.Changes.{WritesAlone}
use Rattle.ccsl_top.proofs.Slots.{is_slot-same, is_slot-differs}
use Rattle.ccsl_top.proofs.Effects.{by-test, alone-then, alone-at, alone-counts}
use Rattle.std.proofs.lemmas.Bool.{both_ways}

pub cert-apart : CertOut ≢ TraceOut
cert-apart = is_slot-differs TraceOut CertOut refl

pub trace-apart : TraceOut ≢ CertOut
trace-apart = is_slot-differs CertOut TraceOut refl

-- what is true of both output slots is true of each
pub on-output : (Q : Slot → Type 0) → Q TraceOut → Q CertOut → (slot : Slot) → is_output slot ≡ true → Q slot
on-output Q t c Spec e = absurd (both_ways (is_output Spec) refl e)
on-output Q t c Trace e = absurd (both_ways (is_output Trace) refl e)
on-output Q t c Cert e = absurd (both_ways (is_output Cert) refl e)
on-output Q t c Input e = absurd (both_ways (is_output Input) refl e)
on-output Q t c Report e = absurd (both_ways (is_output Report) refl e)
on-output Q t c TraceOut e = t
on-output Q t c CertOut e = c

-- two names are one, or differ
pub by-name : (Q : Type 0) (name other : List ℕ) → (name ≡ other → Q) → (name ≢ other → Q) → Q
by-name Q name other yes_ no_ = by-test (bytes_eq name other)
    (λ t. yes_ ((bytes_eq-Decides name other).0 t))
    (λ t. no_ (λ same. absurd (both_ways (bytes_eq name other) t ((bytes_eq-Decides name other).1 same))))

-- calls on output slots that did not fail and closed no file
pub record Keeps (s t : State) : Type 0 where
  pub alone : WritesAlone s t
  pub files : t.files ≡ s.files
  pub counts : (slot : Slot) → (t.slot_of slot).faults ≡ (s.slot_of slot).faults

pub keeps-then : {s t u : State} → Keeps s t → Keeps t u → Keeps s u
keeps-then {s} {t} {u} p q = record {
  alone = alone-then s t u p.alone q.alone;
  files = q.files ∙ p.files;
  counts = λ slot. q.counts slot ∙ p.counts slot;
}

module _ {slot : Slot} {s t : State} where
  pub fails-alone : Fails slot s t → is_output slot ≡ true → WritesAlone s t
  fails-alone f is = alone-at slot is s t f.only.others f.rose.0

  -- nothing is written by a call that failed
  pub fails-written : Fails slot s t → (other : Slot) → (t.slot_of other).written ≡ (s.slot_of other).written
  fails-written f other = by-test (is_slot slot other)
      (λ yes. subst (λ x. (t.slot_of x).written ≡ (s.slot_of x).written) (is_slot-same slot other yes) (ap (λ x. x.written) f.here))
      (λ no. ap (λ x. x.written) (f.only.others other (is_slot-differs slot other no)))

  kept-by : ChangesOnly slot s t → is_output slot ≡ true → (t.slot_of slot).faults ≡ (s.slot_of slot).faults → Keeps s t
  kept-by only is e = record {
    alone = alone-at slot is s t only.others (omega (arith, e));
    files = only.files;
    counts = alone-counts slot is s t only.others e;
  }

  module _ {told : Told} where
    pub opens-keeps : {name : List ℕ} → OpensOut told slot name s t → is_output slot ≡ true → Keeps s t
    opens-keeps o is = kept-by o.only is (ap (λ x. x.faults) o.here)

    pub adds-keeps : {bytes : List ℕ} → Adds told slot bytes s t → is_output slot ≡ true → Keeps s t
    adds-keeps a is = kept-by a.only is (ap (λ x. x.faults) a.here)

    pub part-alone : {bytes : List ℕ} → AddsFront told slot bytes s t → is_output slot ≡ true → WritesAlone s t
    part-alone a is = alone-at slot is s t a.only.others a.rose.0

    pub closes-alone : Closes told slot s t → is_output slot ≡ true → WritesAlone s t
    closes-alone c is = let e = ap (λ x. x.faults) c.here in alone-at slot is s t c.others (omega (arith, e))

    pub closes-counts : Closes told slot s t → is_output slot ≡ true → (other : Slot) → (t.slot_of other).faults ≡ (s.slot_of other).faults
    closes-counts c is = alone-counts slot is s t c.others (ap (λ x. x.faults) c.here)

    pub closes-written : Closes told slot s t → (t.slot_of slot).written ≡ (s.slot_of slot).written
    closes-written c = ap (λ x. x.written) c.here
