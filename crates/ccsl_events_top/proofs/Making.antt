-- What a run has done, by the stage at which it ends.
use Rattle.std.proofs.Common.{◌≡◌, ◌≢◌, ◌⊎◌, ◌+◌, ℕ, List, [], ◌++◌, length, take, Bool, cond, inl, inr, refl, sym, ap, ◌∙◌, subst, IsTrue}
use Rattle.std.proofs.Common.{Option, Some, None, Result, Err, append-nil}
use Rattle.std.specs.declared.vec.Vec.{Vec}
use Rattle.std.specs.declared.alloc.Global.{Global}
use Rattle.std.proofs.lemmas.Bool.{lt-ltb, le-ltb}
use Rattle.std.proofs.Math.Seq.{take-append_seam}
use Rattle.ccsl_base.specs.declared.limits.TheConstants.{MAX_SPEC_BYTES}
use Rattle.ccsl_edge.specs.declared.slot.Slot.{Slot}
use Rattle.ccsl_edge.specs.declared.slot.Slot.TheVariants as slots
use Rattle.ccsl_edge.specs.World.{State, SlotState, Told, held}
use Rattle.ccsl_edge.specs.Counts.{SameCounts, NoCountFalls}
use Rattle.ccsl_edge.specs.Calls.{ChangesOnly, Fails, OpensIn}
use Rattle.ccsl_edge.proofs.Counts.{SameCounts-then, SameCounts-NoCountFalls, NoCountFalls-then, OpensIn-SameCounts}
use Rattle.ccsl_edge.proofs.Counts.{Fails-NoCountFalls}
use Rattle.ccsl_edge.proofs.Frames.{Rose-after_same}
use Rattle.ccsl_event_file.specs.declared.fault.EventFault.{EventFault}
use Rattle.ccsl_event_file.specs.declared.fault.EventFault.TheVariants as faults
use Rattle.ccsl_event_file.specs.File.{Event, Reading, events, fault, reading, names_of}
use Rattle.ccsl_event_file.specs.Parsing.{IsFault}
use Rattle.ccsl_events.specs.Opening.{ended}
use Rattle.ccsl_events.specs.Dump.{Plan, Said}
use Rattle.ccsl_events.specs.Written.{header_text}
use Rattle.ccsl_scopes.specs.Headings.{Heading}
use Rattle.ccsl_scopes.specs.Standing.{IsHeaderOf}
use Rattle.ccsl_scopes.specs.declared.header.Header.{Header}
use Rattle.ccsl_events.specs.Binding.{bound}
use Rattle.ccsl_events.specs.Standing.{are_skipped}
use Rattle.ccsl_events_top.specs.declared.sink.Sink.{Sink}
use Rattle.ccsl_events_top.specs.declared.stop.Stop.{Stop}
use Rattle.ccsl_events_top.specs.declared.stop.Stop.TheVariants as stops
use Rattle.ccsl_events_top.specs.Words.{Named}
use Rattle.ccsl_events_top.specs.Streams.{Streams, slot_of, RoseAt}
use Rattle.ccsl_events_top.specs.Reading.{opened, body_said, rows_of}
use Rattle.ccsl_events_top.specs.Passing.{dump_of, Leaves, Breaks, IsCutOff, IsUnopened, IsWritten}
use Rattle.ccsl_events_top.specs.Effects.{IsRead, IsAddedTo, MayBecome, Stays, sink_of}
use Rattle.ccsl_events_top.specs.Made.{reading_of, IsPlanned, IsUnplanned, answered, no_events, no_header, no_path, rows}
use Rattle.ccsl_events_top.specs.Outcome.{IsTold, IsPut, IsUnwritten, IsWrittenTo, unwritten, IsMadeOf, Makes, IsFront, nothing, part}
use Rattle.ccsl_events_top.specs.Outcome.{HasEvents, IsCause, by_events, by_dump, by_trace, Fails as Failing, Starves, IsOutcome}
use Rattle.ccsl_events_top.specs.Stages.{HasText, ReadsFile, SaysEvents, IsBodyFor}
use Rattle.ccsl_events_top.proofs.Effects.{read-is, added-same, added-is, stays-then, stays-by, stays-streams}

apart-spec : (out : Option (List ℕ)) → slot_of (sink_of out) ≢ slots.Spec
apart-spec None e = absurd (cc)
apart-spec (Some name) e = absurd (cc)

apart-trace : (out : Option (List ℕ)) → slot_of (sink_of out) ≢ slots.Trace
apart-trace None e = absurd (cc)
apart-trace (Some name) e = absurd (cc)

fault-cases : (f : EventFault) (r : Reading) → IsFault f r → (f ≡ faults.Memory) ⊎ (r ≡ fault f)
fault-cases (faults.Syntax at) r e = inr e
fault-cases (faults.Duplicate at) r e = inr e
fault-cases (faults.Unknown at) r e = inr e
fault-cases (faults.Ambiguous at) r e = inr e
fault-cases (faults.NotOneBit at) r e = inr e
fault-cases (faults.NoEvent at) r e = inr e
fault-cases (faults.TooWide at) r e = inr e
fault-cases faults.TooLong r e = inr e
fault-cases faults.Memory r e = inl refl

module _ (told : Told) (n : Named) (old : State) where
  -- ## Where nothing was written

  pub record IsIdle (now : State) : Type 0 where
    pub files : now.files ≡ old.files
    pub stays : Stays (sink_of n.out) old now
    pub unwritten_yet : IsUnwritten told n.out old now

  idle-front : (now : State) → IsIdle now → IsTrue told.written → IsFront told n old now
  idle-front now i tells = nothing (i.unwritten_yet.same tells)

  idle-starves : (now : State) → IsIdle now → SameCounts old now → Starves told n old now
  idle-starves now i counts = record { counts = counts; front = λ _ tells. idle-front now i tells; files = i.files; stays = i.stays }

  pub idle-fails : (now : State) → IsIdle now → NoCountFalls old now → IsCause told n old now → Failing told n old now
  idle-fails now i falls cause =
      record { cause = cause; falls = falls; front = λ _ tells. idle-front now i tells; files = i.files; stays = i.stays }

  idle-makes : (now : State) (stop : Stop) → IsIdle now → SameCounts old now → (IsTold told → IsMadeOf told n old now (Err stop) [])
      → Makes told n old now (Err stop)
  idle-makes now stop i counts made =
      record { text = []; made = made; writes = unwritten refl i.unwritten_yet i.files; counts = counts; stays = i.stays }

  -- an input alone was touched
  idle-input : (slot : Slot) (now : State) → slot_of (sink_of n.out) ≢ slot → ChangesOnly slot old now
      → MayBecome (sink_of n.out) slot (old.slot_of slot) (now.slot_of slot) → IsIdle now
  idle-input slot now apart only here =
      let same : now.slot_of (slot_of (sink_of n.out)) ≡ old.slot_of (slot_of (sink_of n.out)) = only.others (slot_of (sink_of n.out)) apart in
      record {
        files = only.files;
        stays = stays-by (sink_of n.out) slot old now only.others here;
        unwritten_yet = record { still = added-same _ _ same; same = λ _. ap (λ (x : SlotState). x.written) same };
      }

  idle-spec : (now : State) → ChangesOnly slots.Spec old now → IsRead (old.slot_of slots.Spec) (now.slot_of slots.Spec) → IsIdle now
  idle-spec now only read = idle-input slots.Spec now (apart-spec n.out) only read

  -- ## The file of events

  pub unread : (now : State) (stop : Stop) → ReadsFile told n.events (Err stop) old now → IsOutcome told n old now (Err stop)
  unread now (stops.Words usage) r = r
  unread now (stops.Events f near) r =
      let l = r.1 in
      inl (idle-makes now (stops.Events f near) (idle-spec now l.reads.only l.reads.read) l.reads.counts
      (λ tells. no_events f
      (ap (λ (w : Bool). cond w (fault faults.TooLong) (reading (held old.files n.events)))
      (lt-ltb MAX_SPEC_BYTES (length (held old.files n.events)) (l.long tells))
      ∙ ap fault (sym r.0)) near refl refl))
  unread now (stops.Trace f) r = absurd r
  unread now stops.Fault r =
      idle-fails now (idle-spec now r.only r.read) r.falls (by_events r.rose)
  unread now stops.Memory r = idle-starves now (idle-spec now r.only r.read) r.counts

  says-held : (text : List ℕ) (now : State) → HasText told n.events text old now → IsTold told
      → reading_of (held old.files n.events) ≡ reading text
  says-held text now h tells =
      ap reading_of (h.is tells)
      ∙ ap (λ (w : Bool). cond w (fault faults.TooLong) (reading text)) (le-ltb MAX_SPEC_BYTES (length text) h.within)

  pub unsaid : (text : List ℕ) (now : State) (stop : Stop) → HasText told n.events text old now → SaysEvents text (Err stop)
      → IsOutcome told n old now (Err stop)
  unsaid text now (stops.Words usage) h r = r
  unsaid text now (stops.Events f near) h r = go (fault-cases f (reading text) r)
    where
      idle : IsIdle now
      idle = idle-spec now h.reads.only h.reads.read

      go : (f ≡ faults.Memory) ⊎ (reading text ≡ fault f) → IsOutcome told n old now (Err (stops.Events f near))
      go (inl m) = inr (m, idle-starves now idle h.reads.counts)
      go (inr e) =
          inl (idle-makes now (stops.Events f near) idle h.reads.counts
          (λ tells. no_events f (says-held text now h tells ∙ e) near refl refl))
  unsaid text now (stops.Trace f) h r = absurd r
  unsaid text now stops.Fault h r = absurd r
  unsaid text now stops.Memory h r = absurd r

  -- ## The dump is opened

  -- The file of events says these events, and the dump was opened.
  pub record HasOpened (es : List Event) (start : State) : Type 0 where
    pub says : IsTold told → reading_of (held old.files n.events) ≡ events es
    pub dump : IsTold told → dump_of start ≡ held old.files n.trace
    pub counts : SameCounts old start
    pub files : start.files ≡ old.files
    pub others : (slot : Slot) → slot ≢ slots.Spec → slot ≢ slots.Trace → start.slot_of slot ≡ old.slot_of slot
    pub stays : (sink : Sink) → Stays sink old start

  pub dump-opened : (text : List ℕ) (es : List Event) (s start : State) → HasText told n.events text old s → reading text ≡ events es
      → OpensIn told slots.Trace n.trace s start → HasOpened es start
  dump-opened text es s start h e p = record {
    says = λ tells. says-held text s h tells ∙ e;
    dump = λ tells. p.bytes tells.0 tells.1 ∙ ap (λ files. held files n.trace) h.reads.only.files;
    counts = SameCounts-then old s start h.reads.counts (OpensIn-SameCounts told slots.Trace n.trace s start p);
    files = p.only.files ∙ h.reads.only.files;
    others = λ slot spec trace. p.only.others slot trace ∙ h.reads.only.others slot spec;
    stays = λ sink.
        stays-then sink old s start (stays-by sink slots.Spec old s h.reads.only.others h.reads.read)
        (stays-by sink slots.Trace s start p.only.others (read-is (s.slot_of slots.Trace) (start.slot_of slots.Trace) _ _ p.here));
  }

  pub dump-unopened : (text : List ℕ) (es : List Event) (s now : State) → HasText told n.events text old s → reading text ≡ events es
      → Fails slots.Trace s now → Failing told n old now
  dump-unopened text es s now h e p =
      let here : IsRead (s.slot_of slots.Trace) (now.slot_of slots.Trace) = read-is (s.slot_of slots.Trace) (now.slot_of slots.Trace) _ _ p.here in
      let same : now.slot_of (slot_of (sink_of n.out)) ≡ old.slot_of (slot_of (sink_of n.out)) =
      p.only.others (slot_of (sink_of n.out)) (apart-trace n.out) ∙ h.reads.only.others (slot_of (sink_of n.out)) (apart-spec n.out) in
      idle-fails now
      (record {
        files = p.only.files ∙ h.reads.only.files;
        stays =
            stays-then (sink_of n.out) old s now (stays-by (sink_of n.out) slots.Spec old s h.reads.only.others h.reads.read)
            (stays-by (sink_of n.out) slots.Trace s now p.only.others here);
        unwritten_yet = record { still = added-same _ _ same; same = λ _. ap (λ (x : SlotState). x.written) same };
      })
      (NoCountFalls-then old s now (SameCounts-NoCountFalls old s h.reads.counts) (Fails-NoCountFalls slots.Trace s now p))
      (by_dump (λ tells. (es, says-held text s h tells ∙ e))
      (Rose-after_same _ _ _ (h.reads.counts.same slots.Trace) p.rose))

  module _ (es : List Event) (start : State) (o : HasOpened es start) where
    has-events : HasEvents told n old start
    has-events tells = (es, o.says tells)

    pub idle-read : (read : List ℕ) (now : State) → Streams told (sink_of n.out) read [] start now → IsIdle now
    idle-read read now p =
        let same : start.slot_of (slot_of (sink_of n.out)) ≡ old.slot_of (slot_of (sink_of n.out)) =
        o.others (slot_of (sink_of n.out)) (apart-spec n.out) (apart-trace n.out) in
        record {
          files = p.files ∙ o.files;
          stays =
              stays-then (sink_of n.out) old start now (o.stays (sink_of n.out))
              (stays-streams told (sink_of n.out) read [] start now p);
          unwritten_yet = record {
            still = subst (λ (x : SlotState). IsAddedTo x (now.slot_of (slot_of (sink_of n.out)))) same (added-is _ _ _ _ p.out);
            same = λ tells.
                p.grown tells ∙ append-nil (start.slot_of (slot_of (sink_of n.out))).written
                ∙ ap (λ (x : SlotState). x.written) same;
          };
        }

    -- a call failed since then
    cause : (now : State) → RoseAt slots.Trace start now ⊎ RoseAt (slot_of (sink_of n.out)) start now → IsCause told n old now
    cause now (inl r) = by_dump (λ tells. has-events tells) (Rose-after_same _ _ _ (o.counts.same slots.Trace) r)
    cause now (inr r) = by_trace (λ tells. has-events tells) (Rose-after_same _ _ _ (o.counts.same (slot_of (sink_of n.out))) r)

    pub starves : (now : State) → Leaves told (sink_of n.out) start now [] → Starves told n old now
    starves now l = idle-starves now (idle-read l.read now l.streams) (SameCounts-then old start now o.counts l.counts)

    pub unheaded : (now : State) (stop : Stop) → IsUnopened told (sink_of n.out) start now stop → IsOutcome told n old now (Err stop)
    unheaded now (stops.Words usage) u = u
    unheaded now (stops.Events f near) u = absurd u
    unheaded now (stops.Trace f) u =
        idle-makes now (stops.Trace f) (idle-read u.0.read now u.0.streams) (SameCounts-then old start now o.counts u.0.counts)
        (λ tells. no_header es (o.says tells) f (rw (sym (o.dump tells)) (u.1 tells.1)) refl refl)
    unheaded now stops.Fault u =
        idle-fails now (idle-read u.read now u.streams)
        (NoCountFalls-then old start now (SameCounts-NoCountFalls old start o.counts) u.falls) (cause now u.rose)
    unheaded now stops.Memory u = starves now u

    -- a path is refused
    unbound : (now : State) (f : EventFault) (near : Vec ℕ Global) (h : Heading) (at : ℕ) → Leaves told (sink_of n.out) start now []
        → (IsTrue told.left → opened (dump_of start) ≡ ended h at) → IsUnplanned es h n.gaps f ⊎ (f ≡ faults.Memory)
        → IsOutcome told n old now (Err (stops.Events f near))
    unbound now f near h at l heads (inr m) = inr (m, starves now l)
    unbound now f near h at l heads (inl u) =
        inl (idle-makes now (stops.Events f near) (idle-read l.read now l.streams) (SameCounts-then old start now o.counts l.counts)
        (λ tells. no_path es (o.says tells) h at (rw (sym (o.dump tells)) (heads tells.1)) f u near refl refl))

    pub unmade : (now : State) (stop : Stop) (h : Heading) (at : ℕ) (header : Header) → Leaves told (sink_of n.out) start now []
        → (IsTrue told.left → opened (dump_of start) ≡ ended h at) → IsHeaderOf h header
        → IsBodyFor (bound es header.variables.items header.codes (are_skipped n.gaps)) (Err stop) → IsOutcome told n old now (Err stop)
    unmade now (stops.Words usage) h at header l heads is b = b
    unmade now (stops.Events f near) h at header l heads is (inl e) =
        unbound now f near h at l heads (inl (record { header = header; declares = is; means = e }))
    unmade now (stops.Events f near) h at header l heads is (inr m) = unbound now f near h at l heads (inr m)
    unmade now (stops.Trace f) h at header l heads is b = absurd b
    unmade now stops.Fault h at header l heads is b = absurd b
    unmade now stops.Memory h at header l heads is b = absurd b

    -- ## The body

    -- the state in which the trace begins, with an open file where it goes to one
    pub record HasBase (base : State) : Type 0 where
      pub files : base.files ≡ old.files
      pub counts : SameCounts old base
      pub stays : Stays (sink_of n.out) old base
      pub dump : dump_of base ≡ dump_of start
      pub put : (now : State) (read text : List ℕ) → Streams told (sink_of n.out) read text base now → IsPut told n.out old now text

    -- what the events mean for the header
    pub record HasPlan (head text : List ℕ) (plan : Plan) : Type 0 where
      pub heading : Heading
      pub at : ℕ
      pub heads : IsTrue told.left → opened (dump_of start) ≡ ended heading at
      pub behind : length head ≡ at + 1
      pub planned : IsPlanned es heading n.gaps plan
      pub text_is : text ≡ header_text heading.timescale (names_of es)

    module _ (base : State) (b : HasBase base) (head text : List ℕ) (plan : Plan) (x : HasPlan head text plan) where
      dump-held : IsTold told → dump_of base ≡ held old.files n.trace
      dump-held tells = b.dump ∙ o.dump tells

      says-at : IsTold told → body_said plan (length head) (dump_of base) ≡ body_said plan (x.at + 1) (held old.files n.trace)
      says-at tells =
          ap (λ (k : ℕ). body_said plan k (dump_of base)) x.behind ∙ ap (λ (d : List ℕ). body_said plan (x.at + 1) d) (dump-held tells)

      text-at : IsTold told → text ++ rows_of plan (length head) (dump_of base)
          ≡ header_text x.heading.timescale (names_of es) ++ rows_of plan (x.at + 1) (held old.files n.trace)
      text-at tells =
          ap (λ (xs : List ℕ). xs ++ rows_of plan (length head) (dump_of base)) x.text_is
          ∙ ap (λ (k : ℕ). header_text x.heading.timescale (names_of es) ++ rows_of plan k (dump_of base)) x.behind
          ∙ ap (λ (d : List ℕ). header_text x.heading.timescale (names_of es) ++ rows_of plan (x.at + 1) d) (dump-held tells)

      pub makes-rows : (now : State) (done : Result (ℕ × ℕ) Stop) (all : List ℕ) → IsTold told
          → done ≡ answered (length es) (body_said plan (length head) (dump_of base))
          → all ≡ text ++ rows_of plan (length head) (dump_of base) → IsMadeOf told n old now done all
      makes-rows now done all tells is e =
          rows es (o.says tells) x.heading x.at (rw (sym (o.dump tells)) (x.heads tells.1)) plan x.planned
          (is ∙ ap (answered (length es)) (says-at tells)) (e ∙ text-at tells)

      front : (now : State) (read some : List ℕ) → Streams told (sink_of n.out) read some base now
          → (IsTrue told.left → (more : List ℕ) × ((some ++ []) ++ more ≡ text ++ rows_of plan (length head) (dump_of base)))
          → IsTold told → IsFront told n old now
      front now read some p f tells =
          let k = f tells.1 in
          let all : List ℕ = text ++ rows_of plan (length head) (dump_of base) in
          let is : take (length some) all ≡ some =
          ap (take (length some)) (sym k.1 ∙ ap (λ (xs : List ℕ). xs ++ k.0) (append-nil some)) ∙ take-append_seam some k.0 in
          part (answered (length es) (body_said plan (length head) (dump_of base))) all (makes-rows now _ all tells refl refl) (length some)
          (subst (λ (xs : List ℕ). IsPut told n.out old now xs) (sym is) (b.put now read some p))

      stays-on : (now : State) (read some : List ℕ) → Streams told (sink_of n.out) read some base now → Stays (sink_of n.out) old now
      stays-on now read some p = stays-then (sink_of n.out) old base now b.stays (stays-streams told (sink_of n.out) read some base now p)

      pub makes : (end now : State) (said : Said) (done : Result (ℕ × ℕ) Stop)
          → (w : IsWritten told (sink_of n.out) base end plan head text said) → done ≡ answered (length es) said
          → IsWrittenTo told n.out w.written old now → SameCounts end now → Stays (sink_of n.out) end now → Makes told n old now done
      makes end now said done w is writes counts stays = record {
        text = w.written;
        made = λ tells. makes-rows now done w.written tells (is ∙ ap (answered (length es)) (sym (w.says tells.1))) (w.rows tells.1);
        writes = writes;
        counts = SameCounts-then old end now (SameCounts-then old base end b.counts w.leaves.counts) counts;
        stays = stays-then (sink_of n.out) old end now (stays-on end w.leaves.read w.written w.leaves.streams) stays;
      }

      -- the body was left
      pub breaks-off : (now : State) → IsCutOff told (sink_of n.out) base now (Breaks told (sink_of n.out) base now) plan head text []
          → Failing told n old now
      breaks-off now s = record {
        cause = base-cause s.left.rose;
        falls = NoCountFalls-then old base now (SameCounts-NoCountFalls old base b.counts) s.left.falls;
        front = λ tells _. front now s.left.read s.written s.left.streams s.front tells;
        files = s.left.streams.files ∙ b.files;
        stays = stays-on now s.left.read s.written s.left.streams;
      }
        where
          base-cause : RoseAt slots.Trace base now ⊎ RoseAt (slot_of (sink_of n.out)) base now → IsCause told n old now
          base-cause (inl r) = by_dump (λ tells. (es, o.says tells)) (Rose-after_same _ _ _ (b.counts.same slots.Trace) r)
          base-cause (inr r) = by_trace (λ tells. (es, o.says tells)) (Rose-after_same _ _ _ (b.counts.same (slot_of (sink_of n.out))) r)

      pub gives-up : (now : State) → IsCutOff told (sink_of n.out) base now (Leaves told (sink_of n.out) base now) plan head text []
          → Starves told n old now
      gives-up now s = record {
        counts = SameCounts-then old base now b.counts s.left.counts;
        front = λ tells _. front now s.left.read s.written s.left.streams s.front tells;
        files = s.left.streams.files ∙ b.files;
        stays = stays-on now s.left.read s.written s.left.streams;
      }
