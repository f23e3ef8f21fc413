-- A pass that has written nothing goes on as one whose file was open from the beginning.
use Rattle.std.proofs.Common.{◌≡◌, ◌≢◌, ℕ, List, [], ◌++◌, true, refl, sym, ap, ◌∙◌, append-nil}
use Rattle.ccsl_edge.specs.declared.slot.Slot.{Slot}
use Rattle.ccsl_edge.specs.declared.slot.Slot.TheVariants.{Spec, Trace, Cert, Input, Report, TraceOut, CertOut}
use Rattle.ccsl_edge.specs.World.{State, SlotState, Told}
use Rattle.ccsl_edge.specs.Counts.{SameCounts}
use Rattle.ccsl_edge.specs.Calls.{OpensOut}
use Rattle.ccsl_edge.proofs.Counts.{SameCounts-then, OpensOut-SameCounts}
use Rattle.ccsl_events.specs.Dump.{Plan}
use Rattle.ccsl_events_top.specs.declared.sink.Sink.TheVariants.{File}
use Rattle.ccsl_events_top.specs.declared.pass.Pass.{Pass}
use Rattle.ccsl_events_top.specs.Streams.{Streams}
use Rattle.ccsl_events_top.specs.Passing.{InBody, Begins, EndsBody}
use Rattle.ccsl_events_top.specs.Stages.{is_written}
use Rattle.ccsl_events_top.specs.declared.stop.Stop.{Stop}
use Rattle.ccsl_events_top.specs.declared.stop.Stop.TheVariants as stops
use Rattle.std.proofs.Common.{Result, Ok, Err}

-- the slots of one state, but for the file of the trace, which is another's
abbrev slots_of : State → State → Slot → SlotState
slots_of s t Spec = s.slot_of Spec
slots_of s t Trace = s.slot_of Trace
slots_of s t Cert = s.slot_of Cert
slots_of s t Input = s.slot_of Input
slots_of s t Report = s.slot_of Report
slots_of s t TraceOut = t.slot_of TraceOut
slots_of s t CertOut = s.slot_of CertOut

abbrev pub with_out : State → State → State
with_out s t = record { files = s.files; slot_of = slots_of s t }

other-slots : (s t : State) (slot : Slot) → slot ≢ TraceOut → slots_of s t slot ≡ s.slot_of slot
other-slots s t Spec other = refl
other-slots s t Trace other = refl
other-slots s t Cert other = refl
other-slots s t Input other = refl
other-slots s t Report other = refl
other-slots s t TraceOut other = absurd (other refl)
other-slots s t CertOut other = refl

module _ (told : Told) (name : List ℕ) (start s t : State) (opens : OpensOut told TraceOut name s t) where
  open-before : (read written : List ℕ) → Streams told File read written start s → SameCounts start s
      → OpensOut told TraceOut name start (with_out start t)
  open-before read written p counts = record {
    only = record { files = refl; others = λ other apart. other-slots start t other apart };
    here =
        opens.here
        ∙ ap (λ (x : SlotState). record x { written = (t.slot_of TraceOut).written; name = (t.slot_of TraceOut).name; is_open = true }) p.out
        ∙ ap (λ (n : ℕ). record (start.slot_of TraceOut) {
          written = (t.slot_of TraceOut).written;
          name = (t.slot_of TraceOut).name;
          is_open = true;
          faults = n;
        }) (counts.same TraceOut);
    empty = opens.empty;
    named = opens.named;
  }

  streams-since : (read : List ℕ) → Streams told File read [] start s → Streams told File read [] (with_out start t) t
  streams-since read p =
      let dump : t.slot_of Trace ≡ s.slot_of Trace = opens.only.others Trace (λ e. absurd (cc)) in
      record {
        files = opens.only.files ∙ p.files;
        others = λ slot apart other.
            opens.only.others slot other ∙ p.others slot apart other ∙ sym (other-slots start t slot other);
        trace = dump ∙ p.trace ∙ ap (λ (x : SlotState). record (start.slot_of Trace) { left = x.left; faults = x.faults }) (sym dump);
        out = refl;
        taken = λ tells. p.taken tells ∙ ap (λ (x : SlotState). read ++ x.left) (sym dump);
        grown = λ _. sym (append-nil (t.slot_of TraceOut).written);
      }

  pub reopened : (plan : Plan) (head text : List ℕ) (pass : Pass) → Begins told File start s plan head text pass
      → (begun : State) × OpensOut told TraceOut name start begun × InBody told File begun t plan head text pass
  reopened plan head text pass b =
      let i = b.body in
      let p = i.passes in
      let first = open-before p.bytes i.written p.streams p.counts in
      let all = SameCounts-then start s t p.counts (OpensOut-SameCounts told TraceOut name s t opens) in (
        with_out start t,
        first,
        record {
          given = i.given;
          written = [];
          place = i.place;
          passes = record {
            bytes = p.bytes;
            streams = streams-since p.bytes (rw (sym b.unwritten) p.streams);
            counts = record {
              same = λ slot. all.same slot ∙ sym ((OpensOut-SameCounts told TraceOut name start (with_out start t) first).same slot);
            };
            read = p.read;
            within = p.within;
            given_are = p.given_are;
            ended = λ e. let w = p.ended e in record { few = w.few; whole = λ tells. w.whole tells };
          };
          taken = i.taken;
          rows = ap (λ (xs : List ℕ). xs ++ pass.block.items) (sym b.unwritten) ∙ i.rows;
        },
      )

-- the file is open where all was written that a body says
pub ended-open : (told : Told) (name : List ℕ) (start begun t : State) (plan : Plan) (head text : List ℕ) (ended : Result ℕ Stop)
    → OpensOut told TraceOut name start begun → EndsBody told File begun t ended plan head text → is_written ended ≡ true
    → (t.slot_of TraceOut).is_open ≡ true
ended-open told name start begun t plan head text (Ok times) opens e is =
    ap (λ (x : SlotState). x.is_open) e.is.leaves.streams.out ∙ ap (λ (x : SlotState). x.is_open) opens.here
ended-open told name start begun t plan head text (Err (stops.Words usage)) opens e is = absurd e
ended-open told name start begun t plan head text (Err (stops.Events f near)) opens e is = absurd e
ended-open told name start begun t plan head text (Err (stops.Trace f)) opens e is =
    ap (λ (x : SlotState). x.is_open) e.leaves.streams.out ∙ ap (λ (x : SlotState). x.is_open) opens.here
ended-open told name start begun t plan head text (Err stops.Fault) opens e is = absurd (cc)
ended-open told name start begun t plan head text (Err stops.Memory) opens e is = absurd (cc)
