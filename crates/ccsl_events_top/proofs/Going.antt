-- A trace goes to standard output, or to a file.
use Rattle.std.proofs.Common.{◌≡◌, ℕ, List, [], ◌∷◌, ◌++◌, length, map, refl, sym, ap, ◌∙◌}
use Rattle.std.proofs.Common.{true, false, Some, None, Result, Ok, Err, arith}
use Rattle.std.proofs.lemmas.List.{take_all}
use Rattle.ccsl_edge.specs.declared.slot.Slot.TheVariants as slots
use Rattle.ccsl_edge.specs.World.{State, SlotState, Told}
use Rattle.ccsl_edge.specs.Calls.{Fails, OpensOut, Closes}
use Rattle.ccsl_edge.proofs.Counts.{SameCounts-none, SameCounts-then, SameCounts-NoCountFalls, NoCountFalls-then, OpensOut-SameCounts, Closes-SameCounts}
use Rattle.ccsl_edge.proofs.Counts.{Fails-NoCountFalls}
use Rattle.ccsl_edge.proofs.Frames.{Rose-after_same}
use Rattle.ccsl_event_file.specs.declared.event.Event as code
use Rattle.ccsl_event_file.specs.File.{Event, names_of}
use Rattle.ccsl_event_file.specs.Parsing.{event_in}
use Rattle.ccsl_events.specs.declared.body.Body.{Body}
use Rattle.ccsl_events.specs.Dump.{Plan, Said, goes, refused}
use Rattle.ccsl_events.specs.Begun.{StandsFor}
use Rattle.ccsl_events.specs.Binding.{bound}
use Rattle.ccsl_events.specs.Standing.{are_skipped}
use Rattle.ccsl_events.specs.Written.{header_text}
use Rattle.ccsl_scopes.specs.declared.header.Header.{Header}
use Rattle.ccsl_scopes.specs.Headings.{Heading}
use Rattle.ccsl_scopes.specs.Standing.{IsHeaderOf}
use Rattle.ccsl_events_top.specs.declared.pass.Pass.{Pass}
use Rattle.ccsl_events_top.specs.declared.sink.Sink.{Sink}
use Rattle.ccsl_events_top.proofs.Passing.{leaves}
use Rattle.ccsl_events.specs.Written as code_names
use Rattle.ccsl_events.specs.declared.body.Gaps.{Gaps}
use Rattle.ccsl_events_top.specs.declared.sink.Sink.TheVariants.{Standard, File}
use Rattle.ccsl_events_top.specs.declared.stop.Stop.{Stop}
use Rattle.ccsl_events_top.specs.declared.stop.Stop.TheVariants as stops
use Rattle.ccsl_events_top.specs.Words.{Named}
use Rattle.ccsl_events_top.specs.Passing.{HasHeader, Leaves, IsWritten, IsWhollyWritten, IsStopped, EndsBody}
use Rattle.ccsl_events_top.specs.Effects.{IsAddedTo}
use Rattle.ccsl_events_top.specs.Made.{answered}
use Rattle.ccsl_events_top.specs.Outcome.{Makes, printed, filed, part, by_trace}
use Rattle.ccsl_events_top.specs.Outcome.{Fails as Failing, IsOutcome}
use Rattle.ccsl_events_top.specs.Stages.{is_written, WritesFile, unopened, stopped, unclosed, closed}
use Rattle.ccsl_events_top.proofs.Effects.{added-is, added-then, stays-none, stays-then, stays-streams, stays-open, stays-close, stays-failed}
use Rattle.ccsl_events_top.proofs.Making.{HasOpened, HasBase, HasPlan, idle-fails, idle-read, makes, makes-rows, breaks-off, gives-up}

pub same-names : (es : List code.Event) → code_names.names_of es ≡ names_of (map event_in es)
same-names [] = refl
same-names (e ∷ es) = ap (λ (names : List (List ℕ)). e.name.items ∷ names) (same-names es)

-- what the events mean for the header of a dump
pub planned-for : (told : Told) (n : Named) (old : State) (es : List code.Event) (start : State) (o : HasOpened told n old (map event_in es) start)
    (sink : Sink) (now : State) (h : Heading) (pass : Pass) (header : Header) (text : List ℕ) (body : Body) → IsHeaderOf h header
    → (x : HasHeader told sink start now h pass) → text ≡ header_text h.timescale (code_names.names_of es)
    → (b : StandsFor (bound (map event_in es) header.variables.items header.codes (are_skipped n.gaps)) body)
    → HasPlan told n old (map event_in es) start o x.given text b.plan
planned-for told n old es start o sink now h pass header text body is x writes b = record {
  heading = h;
  at = x.at;
  heads = x.header;
  behind = x.one_behind;
  planned = record { header = header; declares = is; means = b.means };
  text_is = writes ∙ ap (header_text h.timescale) (same-names es);
}

pub header-leaves : (told : Told) (sink : Sink) (start now : State) (h : Heading) (pass : Pass) → HasHeader told sink start now h pass
    → Leaves told sink start now []
header-leaves told sink start now h pass x = leaves told sink start now pass x.given [] x.passes

-- a command whose trace goes to standard output, and one whose trace goes to a file
abbrev pub to_standard : List ℕ → List ℕ → Gaps → Named
to_standard events trace gaps = record { events = events; trace = trace; out = None; gaps = gaps }

abbrev pub to_file : List ℕ → List ℕ → Gaps → List ℕ → Named
to_file events trace gaps name = record { events = events; trace = trace; out = Some name; gaps = gaps }

module _ (told : Told) (events trace : List ℕ) (gaps : Gaps) (old : State) (es : List Event) (start : State)
    (o : HasOpened told (to_standard events trace gaps) old es start) where
  abbrev pub n : Named
  n = to_standard events trace gaps

  base-standard : HasBase told n old es start o start
  base-standard = record {
    files = o.files;
    counts = o.counts;
    stays = o.stays Standard;
    dump = refl;
    put = λ now read text p tells.
        p.grown tells
        ∙ ap (λ (x : SlotState). x.written ++ text)
        (o.others slots.Report (λ e. absurd (cc)) (λ e. absurd (cc)));
  }

  module _ (head text : List ℕ) (plan : Plan) (x : HasPlan told n old es start o head text plan) where
    printed-rows : (now : State) (said : Said) (done : Result (ℕ × ℕ) Stop) → IsWritten told Standard start now plan head text said
        → done ≡ answered (length es) said → Makes told n old now done
    printed-rows now said done w is =
        makes told n old es start o start base-standard head text plan x now now said done w is
        (printed refl (base-standard.put now w.leaves.read w.written w.leaves.streams) (w.leaves.streams.files ∙ o.files)) (SameCounts-none now)
        (stays-none Standard now)

    pub left-standard : (now : State) (stop : Stop) → IsStopped told Standard start now plan head text stop
        → IsOutcome told n old now (Err stop)
    left-standard now (stops.Words usage) s = s
    left-standard now (stops.Events f near) s = absurd s
    left-standard now (stops.Trace f) s = printed-rows now (refused f) (Err (stops.Trace f)) s refl
    left-standard now stops.Fault s = breaks-off told n old es start o start base-standard head text plan x now s
    left-standard now stops.Memory s = gives-up told n old es start o start base-standard head text plan x now s

    pub whole-standard : (now : State) (times : ℕ) → IsWhollyWritten told Standard start now plan head text times
        → Makes told n old now (Ok (length es, times))
    whole-standard now times w =
        printed-rows now (goes w.last) (Ok (length es, times)) w.is (ap (λ (k : ℕ). Ok (length es, k)) w.count)

module _ (told : Told) (events trace : List ℕ) (gaps : Gaps) (name : List ℕ) (old : State) (es : List Event) (start : State)
    (o : HasOpened told (to_file events trace gaps name) old es start) where
  abbrev pub m : Named
  m = to_file events trace gaps name

  base-file : (begun : State) → OpensOut told slots.TraceOut name start begun → HasBase told m old es start o begun
  base-file begun p = record {
    files = p.only.files ∙ o.files;
    counts = SameCounts-then old start begun o.counts (OpensOut-SameCounts told slots.TraceOut name start begun p);
    stays = stays-then File old start begun (o.stays File) (stays-open told name start begun p);
    dump = ap (λ (x : SlotState). x.left) (p.only.others slots.Trace (λ e. absurd (cc)));
    put = λ now read text q tells. (
      q.grown tells ∙ ap (λ (xs : List ℕ). xs ++ text) (p.empty tells),
      ap (λ (x : SlotState). x.name) q.out ∙ p.named tells,
    );
  }

  failed-still : (s now : State) → Fails slots.TraceOut s now → IsAddedTo (s.slot_of slots.TraceOut) (now.slot_of slots.TraceOut)
  failed-still s now p = added-is (s.slot_of slots.TraceOut) (now.slot_of slots.TraceOut) _ _ p.here

  file-unopened : (s now : State) → Leaves told File start s [] → Fails slots.TraceOut s now → Failing told m old now
  file-unopened s now l p =
      let i = idle-read told m old es start o l.read s l.streams in
      let counts = SameCounts-then old start s o.counts l.counts in
      idle-fails told m old now
      (record {
        files = p.only.files ∙ i.files;
        stays = stays-then File old s now i.stays (stays-failed s now p);
        unwritten_yet = record {
          still = added-then _ _ _ i.unwritten_yet.still (failed-still s now p);
          same = λ tells. ap (λ (y : SlotState). y.written) p.here ∙ i.unwritten_yet.same tells;
        };
      })
      (NoCountFalls-then old s now (SameCounts-NoCountFalls old s counts) (Fails-NoCountFalls slots.TraceOut s now p))
      (by_trace (λ tells. (es, o.says tells)) (Rose-after_same _ _ _ (counts.same slots.TraceOut) p.rose))

  module _ (head text : List ℕ) (plan : Plan) (x : HasPlan told m old es start o head text plan) where
    file-unclosed : (begun end now : State) (said : Said) → OpensOut told slots.TraceOut name start begun
        → IsWritten told File begun end plan head text said → Fails slots.TraceOut end now → Failing told m old now
    file-unclosed begun end now said opens w p =
        let b = base-file begun opens in
        let l = w.leaves in
        let counts = SameCounts-then old begun end b.counts l.counts in
        record {
          cause = by_trace (λ tells. (es, o.says tells)) (Rose-after_same _ _ _ (counts.same slots.TraceOut) p.rose);
          falls = NoCountFalls-then old end now (SameCounts-NoCountFalls old end counts) (Fails-NoCountFalls slots.TraceOut end now p);
          front = λ tells _.
              part (answered (length es) said) w.written
              (makes-rows told m old es start o begun b head text plan x now (answered (length es) said) w.written tells
              (ap (answered (length es)) (sym (w.says tells.1))) (w.rows tells.1))
              (length w.written)
              (λ writes.
              let put = b.put end l.read w.written l.streams writes in (
                ap (λ (y : SlotState). y.written) p.here ∙ put.0 ∙ sym (take_all (length w.written) w.written (omega arith)),
                ap (λ (y : SlotState). y.name) p.here ∙ put.1,
              ));
          files = p.only.files ∙ l.streams.files ∙ b.files;
          stays =
              stays-then File old end now
              (stays-then File old begun end b.stays (stays-streams told File l.read w.written begun end l.streams)) (stays-failed end now p);
        }

    file-closed : (begun end now : State) (said : Said) (done : Result (ℕ × ℕ) Stop) → OpensOut told slots.TraceOut name start begun
        → IsWritten told File begun end plan head text said → done ≡ answered (length es) said → Closes told slots.TraceOut end now
        → Makes told m old now done
    file-closed begun end now said done opens w is p =
        let b = base-file begun opens in
        let l = w.leaves in
        makes told m old es start o begun b head text plan x end now said done w is
        (filed name refl
        (λ writes.
        let put = b.put end l.read w.written l.streams writes in
        (ap (λ (y : SlotState). y.written) p.here ∙ put.0, ap (λ (y : SlotState). y.name) p.here ∙ put.1))
        (ap (λ (y : SlotState). y.is_open) p.here)
        (λ files writes.
        let put = b.put end l.read w.written l.streams writes in
        rw (sym put.1, sym put.0, sym (l.streams.files ∙ b.files)) (p.file files writes)))
        (Closes-SameCounts told slots.TraceOut end now p) (stays-close told end now p)

    file-stopped : (begun now : State) (stop : Stop) → OpensOut told slots.TraceOut name start begun
        → IsStopped told File begun now plan head text stop → is_written (Err stop) ≡ false → IsOutcome told m old now (Err stop)
    file-stopped begun now (stops.Words usage) opens s left = s
    file-stopped begun now (stops.Events f near) opens s left = absurd s
    file-stopped begun now (stops.Trace f) opens s left = absurd (cc)
    file-stopped begun now stops.Fault opens s left = breaks-off told m old es start o begun (base-file begun opens) head text plan x now s
    file-stopped begun now stops.Memory opens s left = gives-up told m old es start o begun (base-file begun opens) head text plan x now s

    file-ended : (begun end now : State) (ended : Result ℕ Stop) → OpensOut told slots.TraceOut name start begun
        → EndsBody told File begun end ended plan head text → is_written ended ≡ true → Fails slots.TraceOut end now → Failing told m old now
    file-ended begun end now (Ok times) opens ends is p = file-unclosed begun end now (goes ends.last) opens ends.is p
    file-ended begun end now (Err (stops.Words usage)) opens ends is p = absurd ends
    file-ended begun end now (Err (stops.Events f near)) opens ends is p = absurd ends
    file-ended begun end now (Err (stops.Trace f)) opens ends is p = file-unclosed begun end now (refused f) opens ends p
    file-ended begun end now (Err stops.Fault) opens ends is p = absurd (cc)
    file-ended begun end now (Err stops.Memory) opens ends is p = absurd (cc)

    file-refused : (begun end now : State) (stop : Stop) → OpensOut told slots.TraceOut name start begun
        → IsStopped told File begun end plan head text stop → is_written (Err stop) ≡ true → Closes told slots.TraceOut end now
        → IsOutcome told m old now (Err stop)
    file-refused begun end now (stops.Words usage) opens s is p = s
    file-refused begun end now (stops.Events f near) opens s is p = absurd s
    file-refused begun end now (stops.Trace f) opens s is p = file-closed begun end now (refused f) (Err (stops.Trace f)) opens s refl p
    file-refused begun end now stops.Fault opens s is p = absurd (cc)
    file-refused begun end now stops.Memory opens s is p = absurd (cc)

    pub left-file : (s now : State) (stop : Stop) → WritesFile told name start s now plan head text (Err stop)
        → IsOutcome told m old now (Err stop)
    left-file s now stop (unopened l p is) =
        let e : stop ≡ stops.Fault = cc in
        rw e (file-unopened s now l p)
    left-file s now stop (stopped begun opens ends left) = file-stopped begun now stop opens ends left
    left-file s now stop (unclosed begun opens end ended ends written p is) =
        let e : stop ≡ stops.Fault = cc in
        rw e (file-ended begun end now ended opens ends written p)
    left-file s now stop (closed begun opens end ends written p) = file-refused begun end now stop opens ends written p

    pub whole-file : (s now : State) (times : ℕ) → WritesFile told name start s now plan head text (Ok times)
        → Makes told m old now (Ok (length es, times))
    whole-file s now times (unopened l p is) = absurd (cc)
    whole-file s now times (stopped begun opens ends left) = absurd (cc)
    whole-file s now times (unclosed begun opens end ended ends written p is) = absurd (cc)
    whole-file s now times (closed begun opens end ends written p) =
        file-closed begun end now (goes ends.last) (Ok (length es, times)) opens ends.is (ap (λ (k : ℕ). Ok (length es, k)) ends.count) p
