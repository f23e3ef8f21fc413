-- The promise of the one call, from what was done and what was reported.
use Rattle.std.proofs.Common.{◌≡◌, ◌≢◌, ◌⊎◌, ℕ, List, [], ◌++◌, Bool, true, false, cond, inl, inr, refl, sym, ap, ◌∙◌, subst, IsTrue, append-nil}
use Rattle.std.proofs.Common.{Option, Some, None, Result, Ok, Err, arith, take, length}
use Rattle.ccsl_edge.specs.declared.slot.Slot.{Slot}
use Rattle.ccsl_edge.specs.declared.slot.Slot.TheVariants as slots
use Rattle.ccsl_edge.specs.World.{State, SlotState, Told, file_at}
use Rattle.ccsl_edge.specs.Stored.{Stores}
use Rattle.ccsl_edge.specs.Counts.{SameCounts, NoCountFalls}
use Rattle.ccsl_edge.proofs.Counts.{SameCounts-none, SameCounts-then, SameCounts-NoCountFalls, NoCountFalls-then, Adds-SameCounts, AddsFront-NoCountFalls}
use Rattle.ccsl_edge.proofs.Frames.{Rose-after_same}
use Rattle.std.proofs.lemmas.List.{take_all}
use Rattle.std.specs.Str.{bytes_eq}
use Rattle.std.proofs.lemmas.Slice.Eq.{bytes_eq-Decides}
use Rattle.ccsl_event_file.specs.declared.fault.EventFault.{EventFault}
use Rattle.ccsl_event_file.specs.declared.fault.EventFault.TheVariants as faults
use Rattle.ccsl_events_top.specs.declared.words.Usage.{Usage}
use Rattle.ccsl_events_top.specs.declared.words.Key.TheVariants as keys
use Rattle.ccsl_events_top.specs.declared.answer.Answer.{Answer}
use Rattle.ccsl_events_top.specs.declared.stop.Stop.{Stop}
use Rattle.ccsl_events_top.specs.declared.stop.Stop.TheVariants as stops
use Rattle.ccsl_events_top.specs.Words.{Named, meaning, meaning_at, with_events, with_trace, named, value_of, first_fault}
use Rattle.ccsl_events_top.specs.Report.{status_of, line_of, IsAnswer}
use Rattle.ccsl_events_top.specs.Streams.{RoseAt, slot_of}
use Rattle.ccsl_events_top.specs.Effects.{IsRead, IsAddedTo, Stays, sink_of}
use Rattle.ccsl_events_top.specs.Outcome.{IsTold, IsPut, IsWrittenTo, unwritten, printed, filed, IsMadeOf, Makes, IsFront, nothing, part}
use Rattle.ccsl_events_top.specs.Outcome.{by_events, by_dump, by_trace, Starves, IsOutcome}
use Rattle.ccsl_events_top.specs.Headline.{out_of, is_status, IsDone, IsSaid, IsReported, Answers, FaultCause, by_report, by_file, IsKeptOrWhole, kept, whole}
use Rattle.ccsl_events_top.specs.Headline.{MayChange, Headline}
use Rattle.ccsl_events_top.proofs.Effects.{added-same, added-then, added-is, stays-none}
use Rattle.ccsl_events_top.proofs.Ending.{rose-on}

text-or-other : (a b : List ℕ) → (a ≡ b) ⊎ (a ≢ b)
text-or-other a b =
    (elim (bytes_eq a b) as (λ w. bytes_eq a b ≡ w → (a ≡ b) ⊎ (a ≢ b)) [
      | true ↦ λ e. inl ((bytes_eq-Decides a b).0 e)
      | false ↦ λ e. inr (λ same. absurd (let g : true ≡ false = sym ((bytes_eq-Decides a b).1 same) ∙ e in cc))
    ]) refl

-- ## Statuses

status-known : (done : Result (ℕ × ℕ) Stop) → is_status (status_of done) ≡ true
status-known (Ok counts) = refl
status-known (Err (stops.Words fault)) = refl
status-known (Err (stops.Events (faults.Syntax at) near)) = refl
status-known (Err (stops.Events (faults.Duplicate at) near)) = refl
status-known (Err (stops.Events (faults.Unknown at) near)) = refl
status-known (Err (stops.Events (faults.Ambiguous at) near)) = refl
status-known (Err (stops.Events (faults.NotOneBit at) near)) = refl
status-known (Err (stops.Events (faults.NoEvent at) near)) = refl
status-known (Err (stops.Events (faults.TooWide at) near)) = refl
status-known (Err (stops.Events faults.TooLong near)) = refl
status-known (Err (stops.Events faults.Memory near)) = refl
status-known (Err (stops.Trace f)) = refl
status-known (Err stops.Fault) = refl
status-known (Err stops.Memory) = refl

-- a fault of the file of events is no failed call, and its line is empty for want of memory alone
events-line : (f : EventFault) (near : _) → (status_of (Err (stops.Events f near)) ≢ 5)
    × (status_of (Err (stops.Events f near)) ≡ 6 → f ≡ faults.Memory)
events-line (faults.Syntax at) near = (λ e. absurd (cc), λ e. absurd (cc))
events-line (faults.Duplicate at) near = (λ e. absurd (cc), λ e. absurd (cc))
events-line (faults.Unknown at) near = (λ e. absurd (cc), λ e. absurd (cc))
events-line (faults.Ambiguous at) near = (λ e. absurd (cc), λ e. absurd (cc))
events-line (faults.NotOneBit at) near = (λ e. absurd (cc), λ e. absurd (cc))
events-line (faults.NoEvent at) near = (λ e. absurd (cc), λ e. absurd (cc))
events-line (faults.TooWide at) near = (λ e. absurd (cc), λ e. absurd (cc))
events-line faults.TooLong near = (λ e. absurd (cc), λ e. absurd (cc))
events-line faults.Memory near = (λ e. absurd (cc), λ e. refl)

quiet : (done : Result (ℕ × ℕ) Stop) → (status_of done ≡ 5) ⊎ (status_of done ≡ 6) → line_of done ≡ []
quiet (Ok counts) (inl e) = absurd (cc)
quiet (Ok counts) (inr e) = absurd (cc)
quiet (Err (stops.Words fault)) (inl e) = absurd (cc)
quiet (Err (stops.Words fault)) (inr e) = absurd (cc)
quiet (Err (stops.Events f near)) (inl e) = absurd ((events-line f near).0 e)
quiet (Err (stops.Events f near)) (inr e) = ap (λ (g : EventFault). line_of (Err (stops.Events g near))) ((events-line f near).1 e)
quiet (Err (stops.Trace f)) (inl e) = absurd (cc)
quiet (Err (stops.Trace f)) (inr e) = absurd (cc)
quiet (Err stops.Fault) e = refl
quiet (Err stops.Memory) e = refl

-- ## What the words name

if-ok : (b : Bool) (f : Usage) (made n : Named) → cond b (Err f) (Ok made) ≡ Ok n → made ≡ n
if-ok true f made n e = absurd (cc)
if-ok false f made n e = cc

named-out : (events trace : List ℕ) (out gaps : Option (List ℕ)) (n : Named) → named events trace out gaps ≡ Ok n → n.out ≡ out
named-out events trace out gaps n e = sym (ap (λ (m : Named). m.out) (if-ok _ _ _ n e))

trace-out : (events : List ℕ) (trace : Option (List ℕ)) (words : List (List ℕ)) (n : Named) → with_trace events trace words ≡ Ok n → n.out ≡ out_of words
trace-out events None words n e = absurd (cc)
trace-out events (Some trace) words n e = named-out events trace (value_of keys.Out words) (value_of keys.Gaps words) n e

events-out : (events : Option (List ℕ)) (words : List (List ℕ)) (n : Named) → with_events events words ≡ Ok n → n.out ≡ out_of words
events-out None words n e = absurd (cc)
events-out (Some events) words n e = trace-out events (value_of keys.Trace words) words n e

meant-out : (fault : Option Usage) (words : List (List ℕ)) (n : Named) → meaning_at fault words ≡ Ok n → n.out ≡ out_of words
meant-out (Some fault) words n e = absurd (cc)
meant-out None words n e = events-out (value_of keys.Events words) words n e

pub out-is : (words : List (List ℕ)) (n : Named) → meaning words ≡ Ok n → n.out ≡ out_of words
out-is words n e = meant-out (first_fault [] words) words n e

-- ## What was done, before the report

-- what is known of a run before its report
pub record Stage (told : Told) (words : List (List ℕ)) (done : Result (ℕ × ℕ) Stop) (old mid : State) : Type 0 where
  pub text : List ℕ
  pub is : IsTold told → status_of done ≢ 5 → status_of done ≢ 6 → IsDone told old mid (meaning words) done text
  pub writes : status_of done ≢ 5 → status_of done ≢ 6 → IsWrittenTo told (out_of words) text old mid
  pub falls : NoCountFalls old mid
  pub counts : status_of done ≢ 5 → SameCounts old mid
  pub cause : status_of done ≡ 5 → FaultCause told words old mid
  pub front : IsTold told → IsTrue told.written → (n : Named) → meaning words ≡ Ok n → IsFront told n old mid
  pub files : IsTold told → IsTrue told.written → (name : List ℕ) → IsKeptOrWhole told words old mid name
  pub stays : Stays (sink_of (out_of words)) old mid
  pub untouched : (fault : Usage) → meaning words ≡ Err fault → mid ≡ old

-- the words are at fault
pub stage-words : (told : Told) (words : List (List ℕ)) (fault : Usage) (s : State) → meaning words ≡ Err fault
    → Stage told words (Err (stops.Words fault)) s s
stage-words told words fault s e = record {
  text = [];
  is = λ _ _ _. subst (λ (m : Result Named Usage). IsDone told s s m (Err (stops.Words fault)) []) (sym e) (refl, refl);
  writes = λ _ _. unwritten refl (record { still = added-same _ _ refl; same = λ _. refl }) refl;
  falls = SameCounts-NoCountFalls s s (SameCounts-none s);
  counts = λ _. SameCounts-none s;
  cause = λ k. absurd (cc);
  front = λ _ _ n k. absurd (let c : Err fault ≡ Ok n = sym e ∙ k in cc);
  files = λ _ _ name. kept refl;
  stays = stays-none (sink_of (out_of words)) s;
  untouched = λ _ _. refl;
}

module _ (told : Told) (words : List (List ℕ)) (n : Named) (old mid : State) (e : meaning words ≡ Ok n) where
  not-at-fault : (fault : Usage) → meaning words ≡ Err fault → mid ≡ old
  not-at-fault fault k = absurd (let c : Ok n ≡ Err fault = sym e ∙ k in cc)

  front-of : IsFront told n old mid → (m : Named) → meaning words ≡ Ok m → IsFront told m old mid
  front-of f m k = let same : n ≡ m = (let c : Ok n ≡ Ok m = sym e ∙ k in cc) in subst (λ (x : Named). IsFront told x old mid) same f

  -- behind a file that was written, each other is as it was
  written-files : (done : Result (ℕ × ℕ) Stop) (text : List ℕ) → IsTold told → IsTrue told.written → IsMadeOf told n old mid done text
      → IsWrittenTo told n.out text old mid → (name : List ℕ) → IsKeptOrWhole told words old mid name
  written-files done text tells writes made (unwritten none u files) name = kept (ap (λ fs. file_at fs name) files)
  written-files done text tells writes made (printed standard put files) name = kept (ap (λ fs. file_at fs name) files)
  written-files done text tells writes made (filed file out put closed stored) name =
      let s = stored tells.0 writes in
      elim (text-or-other name file) [
        | inl same ↦ whole n e (out ∙ ap Some (sym same)) done text made (rw same s.file)
        | inr other ↦ kept (s.others name other)
      ]

  made : (done : Result (ℕ × ℕ) Stop) → status_of done ≢ 5 → Makes told n old mid done → Stage told words done old mid
  made done other m = record {
    text = m.text;
    is = λ tells _ _. subst (λ (x : Result Named Usage). IsDone told old mid x done m.text) (sym e) (m.made tells);
    writes = λ _ _. subst (λ out. IsWrittenTo told out m.text old mid) (out-is words n e) m.writes;
    falls = SameCounts-NoCountFalls old mid m.counts;
    counts = λ _. m.counts;
    cause = λ k. absurd (other k);
    front = λ tells writes.
        front-of (front-made (m.made tells) m.writes writes);
    files = λ tells writes. written-files done m.text tells writes (m.made tells) m.writes;
    stays = subst (λ out. Stays (sink_of out) old mid) (out-is words n e) m.stays;
    untouched = not-at-fault;
  }
    where
      put-made : IsMadeOf told n old mid done m.text → IsPut told n.out old mid m.text → IsFront told n old mid
      put-made is put =
          part done m.text is (length m.text)
          (subst (λ (xs : List ℕ). IsPut told n.out old mid xs) (sym (take_all (length m.text) m.text (omega arith))) put)

      front-made : IsMadeOf told n old mid done m.text → IsWrittenTo told n.out m.text old mid → IsTrue told.written → IsFront told n old mid
      front-made is (unwritten none u files) writes = nothing (u.same writes)
      front-made is (printed standard put files) writes = put-made is put
      front-made is (filed file out put closed stored) writes = put-made is put

  starved : (done : Result (ℕ × ℕ) Stop) → status_of done ≡ 6 → Starves told n old mid → Stage told words done old mid
  starved done six s = record {
    text = [];
    is = λ _ _ other. absurd (other six);
    writes = λ _ other. absurd (other six);
    falls = SameCounts-NoCountFalls old mid s.counts;
    counts = λ _. s.counts;
    cause = λ k. absurd (let c : 6 ≡ 5 = sym six ∙ k in cc);
    front = λ tells writes. front-of (s.front tells writes);
    files = λ _ _ name. kept (ap (λ files. file_at files name) s.files);
    stays = subst (λ out. Stays (sink_of out) old mid) (out-is words n e) s.stays;
    untouched = not-at-fault;
  }

  pub stage-files : (done : Result (ℕ × ℕ) Stop) → IsOutcome told n old mid done → Stage told words done old mid
  stage-files (Ok counts) m = made (Ok counts) (λ k. absurd (cc)) m
  stage-files (Err (stops.Words fault)) m = absurd m
  stage-files (Err (stops.Events f near)) (inl m) = made (Err (stops.Events f near)) (events-line f near).0 m
  stage-files (Err (stops.Events f near)) (inr (is, s)) =
      starved (Err (stops.Events f near)) (ap (λ (g : EventFault). status_of (Err (stops.Events g near))) is) s
  stage-files (Err (stops.Trace f)) m = made (Err (stops.Trace f)) (λ k. absurd (cc)) m
  stage-files (Err stops.Fault) f = record {
    text = [];
    is = λ _ other. absurd (other refl);
    writes = λ other. absurd (other refl);
    falls = f.falls;
    counts = λ other. absurd (other refl);
    cause = λ _. by_file n e f.cause;
    front = λ tells writes. front-of (f.front tells writes);
    files = λ _ _ name. kept (ap (λ files. file_at files name) f.files);
    stays = subst (λ out. Stays (sink_of out) old mid) (out-is words n e) f.stays;
    untouched = not-at-fault;
  }
  stage-files (Err stops.Memory) s = starved (Err stops.Memory) refl s

-- ## The report

-- what a report leaves
pub record Reports (told : Told) (out : Option (List ℕ)) (answer result : Answer) (mid new : State) : Type 0 where
  pub others : (slot : Slot) → slot ≢ slots.Report → new.slot_of slot ≡ mid.slot_of slot
  pub report : IsAddedTo (mid.slot_of slots.Report) (new.slot_of slots.Report)
  pub files : new.files ≡ mid.files
  pub falls : NoCountFalls mid new
  pub none : out ≡ None → new ≡ mid
  pub how : ((result.status ≡ answer.status) × SameCounts mid new × IsSaid told out answer.line result.line mid new)
      ⊎ ((result.status ≡ 5) × RoseAt slots.Report mid new × (result.line ≡ []))

pub reports : (told : Told) (out : Option (List ℕ)) (answer result : Answer) (mid new : State) → IsReported told out answer result mid new
    → Reports told out answer result mid new
reports told None answer result mid new (same, still) = record {
  others = λ slot _. ap (λ (s : State). s.slot_of slot) still;
  report = added-same _ _ (ap (λ (s : State). s.slot_of slots.Report) still);
  files = ap (λ (s : State). s.files) still;
  falls = subst (NoCountFalls mid) (sym still) (SameCounts-NoCountFalls mid mid (SameCounts-none mid));
  none = λ _. still;
  how = inl (ap (λ (x : Answer). x.status) same, subst (SameCounts mid) (sym still) (SameCounts-none mid), ap (λ (x : Answer). x.line) same);
}
reports told (Some name) answer result mid new (inl s) = record {
  others = s.adds.only.others;
  report = record {
    left = ap (λ (x : SlotState). x.left) s.adds.here;
    name = ap (λ (x : SlotState). x.name) s.adds.here;
    is_open = ap (λ (x : SlotState). x.is_open) s.adds.here;
  };
  files = s.adds.only.files;
  falls = SameCounts-NoCountFalls mid new (Adds-SameCounts told slots.Report answer.line mid new s.adds);
  none = λ e. absurd (cc);
  how = inl (s.status, Adds-SameCounts told slots.Report answer.line mid new s.adds, (s.empty, s.adds.end));
}
reports told (Some name) answer result mid new (inr s) = record {
  others = s.adds.only.others;
  report = added-is _ _ _ _ s.adds.here;
  files = s.adds.only.files;
  falls = AddsFront-NoCountFalls told slots.Report answer.line mid new s.adds;
  none = λ e. absurd (cc);
  how = inr (s.status, s.adds.rose, s.empty);
}

-- what is said, since an earlier state
said-since : (told : Told) (out : Option (List ℕ)) (said line : List ℕ) (old mid new : State) → Stays (sink_of out) old mid
    → IsSaid told out said line mid new → IsSaid told out said line old new
said-since told None said line old mid new s i = i
said-since told (Some name) said line old mid new s i =
    (i.0, λ tells. i.1 tells ∙ ap (λ (x : SlotState). x.written ++ said) (s slots.Report))

-- what was written stays written
put-on : (told : Told) (out : Option (List ℕ)) (text : List ℕ) (old mid new : State)
    → new.slot_of (slot_of (sink_of out)) ≡ mid.slot_of (slot_of (sink_of out)) → IsPut told out old mid text → IsPut told out old new text
put-on told None text old mid new same put = λ tells. ap (λ (x : SlotState). x.written) same ∙ put tells
put-on told (Some name) text old mid new same put = λ tells.
    let p = put tells in (ap (λ (x : SlotState). x.written) same ∙ p.0, ap (λ (x : SlotState). x.name) same ∙ p.1)

written-on : (told : Told) (out : Option (List ℕ)) (text : List ℕ) (old mid new : State) → new.files ≡ mid.files
    → ((slot : Slot) → slot ≢ slots.Report → new.slot_of slot ≡ mid.slot_of slot)
    → new.slot_of (slot_of (sink_of out)) ≡ mid.slot_of (slot_of (sink_of out)) → IsWrittenTo told out text old mid → IsWrittenTo told out text old new
written-on told out text old mid new files others same (unwritten none u still) =
    unwritten none (record {
      still = subst (IsAddedTo (old.slot_of (slot_of (sink_of out)))) (sym same) u.still;
      same = λ tells. ap (λ (x : SlotState). x.written) same ∙ u.same tells;
    }) (files ∙ still)
written-on told out text old mid new files others same (printed standard put still) =
    printed standard (put-on told out text old mid new same put) (files ∙ still)
written-on told out text old mid new files others same (filed name file put closed stored) =
    filed name file (put-on told out text old mid new same put)
    (ap (λ (x : SlotState). x.is_open) (others slots.TraceOut (λ e. absurd (cc))) ∙ closed)
    (λ tells writes. subst (Stores name text old.files) (sym files) (stored tells writes))

front-on : (told : Told) (n : Named) (old mid new : State)
    → new.slot_of (slot_of (sink_of n.out)) ≡ mid.slot_of (slot_of (sink_of n.out)) → IsFront told n old mid → IsFront told n old new
front-on told n old mid new same (nothing still) = nothing (ap (λ (x : SlotState). x.written) same ∙ still)
front-on told n old mid new same (part done text made count put) =
    part done text made count (put-on told n.out (take count text) old mid new same put)

files-on : (told : Told) (words : List (List ℕ)) (old mid new : State) (name : List ℕ) → new.files ≡ mid.files
    → IsKeptOrWhole told words old mid name → IsKeptOrWhole told words old new name
files-on told words old mid new name files (kept same) = kept (ap (λ fs. file_at fs name) files ∙ same)
files-on told words old mid new name files (whole n means out done text made holds) =
    whole n means out done text made (ap (λ fs. file_at fs name) files ∙ holds)

cause-on : (told : Told) (words : List (List ℕ)) (old mid new : State) → NoCountFalls mid new → FaultCause told words old mid
    → FaultCause told words old new
cause-on told words old mid new f (by_report r) = by_report (rose-on slots.Report old mid new r f)
cause-on told words old mid new f (by_file n means (by_events r)) = by_file n means (by_events (rose-on slots.Spec old mid new r f))
cause-on told words old mid new f (by_file n means (by_dump has r)) =
    by_file n means (by_dump (λ tells. has tells) (rose-on slots.Trace old mid new r f))
cause-on told words old mid new f (by_file n means (by_trace has r)) =
    by_file n means (by_trace (λ tells. has tells) (rose-on (slot_of (sink_of n.out)) old mid new r f))

may-change : (out : Option (List ℕ)) (slot : Slot) (old mid new : State) → Stays (sink_of out) old mid
    → ((slot : Slot) → slot ≢ slots.Report → new.slot_of slot ≡ mid.slot_of slot) → IsAddedTo (mid.slot_of slots.Report) (new.slot_of slots.Report)
    → MayChange out slot (old.slot_of slot) (new.slot_of slot)
may-change out slots.Spec old mid new s others report = subst (IsRead (old.slot_of slots.Spec)) (sym (others slots.Spec (λ e. absurd (cc)))) (s slots.Spec)
may-change out slots.Trace old mid new s others report = subst (IsRead (old.slot_of slots.Trace)) (sym (others slots.Trace (λ e. absurd (cc)))) (s slots.Trace)
may-change out slots.Cert old mid new s others report = others slots.Cert (λ e. absurd (cc)) ∙ s slots.Cert
may-change out slots.Input old mid new s others report = others slots.Input (λ e. absurd (cc)) ∙ s slots.Input
may-change None slots.Report old mid new s others report = added-then _ _ _ (s slots.Report) report
may-change (Some name) slots.Report old mid new s others report = subst (λ (x : SlotState). IsAddedTo x (new.slot_of slots.Report)) (s slots.Report) report
may-change None slots.TraceOut old mid new s others report = others slots.TraceOut (λ e. absurd (cc)) ∙ s slots.TraceOut
may-change (Some name) slots.TraceOut old mid new s others report =
    ap (λ (x : SlotState). x.left) (others slots.TraceOut (λ e. absurd (cc))) ∙ s slots.TraceOut
may-change out slots.CertOut old mid new s others report = others slots.CertOut (λ e. absurd (cc)) ∙ s slots.CertOut

-- the slot of the trace is as it was, or there is no line on standard output
trace-still : (told : Told) (out : Option (List ℕ)) (answer result : Answer) (mid new : State) → Reports told out answer result mid new
    → new.slot_of (slot_of (sink_of out)) ≡ mid.slot_of (slot_of (sink_of out))
trace-still told None answer result mid new r = ap (λ (s : State). s.slot_of slots.Report) (r.none refl)
trace-still told (Some name) answer result mid new r = r.others slots.TraceOut (λ e. absurd (cc))

line-quiet : (told : Told) (out : Option (List ℕ)) (said line : List ℕ) (mid new : State) → said ≡ [] → IsSaid told out said line mid new → line ≡ []
line-quiet told None said line mid new none i = i ∙ none
line-quiet told (Some name) said line mid new none i = i.0

five-or-other : (done : Result (ℕ × ℕ) Stop) → (status_of done ≡ 5) ⊎ (status_of done ≢ 5)
five-or-other (Ok counts) = inr (λ e. absurd (cc))
five-or-other (Err (stops.Words fault)) = inr (λ e. absurd (cc))
five-or-other (Err (stops.Events f near)) = inr (events-line f near).0
five-or-other (Err (stops.Trace f)) = inr (λ e. absurd (cc))
five-or-other (Err stops.Fault) = inl refl
five-or-other (Err stops.Memory) = inr (λ e. absurd (cc))

module _ (told : Told) (words : List (List ℕ)) (done : Result (ℕ × ℕ) Stop) (answer result : Answer) (old mid new : State)
    (s : Stage told words done old mid) (a : IsAnswer answer done) (r : Reports told (out_of words) answer result mid new) where
  -- the status is 5 for a failed call alone
  answer-five : IsAnswer answer done → answer.status ≡ 5 → status_of done ≡ 5
  answer-five (inl k) e = sym k.0 ∙ e
  answer-five (inr k) e = absurd (let c : 6 ≡ 5 = sym k.1 ∙ e in cc)

  answer-quiet : IsAnswer answer done → (answer.status ≡ 5) ⊎ (answer.status ≡ 6) → answer.line ≡ []
  answer-quiet (inl k) (inl e) = k.1 ∙ quiet done (inl (sym k.0 ∙ e))
  answer-quiet (inl k) (inr e) = k.1 ∙ quiet done (inr (sym k.0 ∙ e))
  answer-quiet (inr k) e = k.2

  answer-known : IsAnswer answer done → is_status answer.status ≡ true
  answer-known (inl k) = ap is_status k.0 ∙ status-known done
  answer-known (inr k) = ap is_status k.1

  either-status : (result.status ≡ answer.status) → (result.status ≡ 5) ⊎ (result.status ≡ 6) → (answer.status ≡ 5) ⊎ (answer.status ≡ 6)
  either-status e (inl k) = inl (sym e ∙ k)
  either-status e (inr k) = inr (sym e ∙ k)

  known : is_status result.status ≡ true
  known = go r.how
    where
      go : ((result.status ≡ answer.status) × SameCounts mid new × IsSaid told (out_of words) answer.line result.line mid new)
          ⊎ ((result.status ≡ 5) × RoseAt slots.Report mid new × (result.line ≡ [])) → is_status result.status ≡ true
      go (inl k) = ap is_status k.0 ∙ answer-known a
      go (inr k) = ap is_status k.0

  defined : IsTold told → result.status ≢ 5 → result.status ≢ 6 → Answers told words result.status result.line old new
  defined tells five six = go r.how a
    where
      go : ((result.status ≡ answer.status) × SameCounts mid new × IsSaid told (out_of words) answer.line result.line mid new)
          ⊎ ((result.status ≡ 5) × RoseAt slots.Report mid new × (result.line ≡ [])) → IsAnswer answer done
          → Answers told words result.status result.line old new
      go (inr k) x = absurd (five k.0)
      go (inl k) (inr x) = absurd (six (k.0 ∙ x.1))
      go (inl k) (inl x) =
          let not_five : status_of done ≢ 5 = λ e. five (k.0 ∙ x.0 ∙ e) in
          let not_six : status_of done ≢ 6 = λ e. six (k.0 ∙ x.0 ∙ e) in
          record {
            done = done;
            text = s.text;
            is = s.is tells not_five not_six;
            status_is = k.0 ∙ x.0;
            says =
                subst (λ (said : List ℕ). IsSaid told (out_of words) said result.line old new) x.1
                (said-since told (out_of words) answer.line result.line old mid new s.stays k.2);
            writes =
                written-on told (out_of words) s.text old mid new r.files r.others (trace-still told (out_of words) answer result mid new r)
                (s.writes not_five not_six);
          }

  counts-stay : result.status ≢ 5 → SameCounts old new
  counts-stay five = go r.how a
    where
      go : ((result.status ≡ answer.status) × SameCounts mid new × IsSaid told (out_of words) answer.line result.line mid new)
          ⊎ ((result.status ≡ 5) × RoseAt slots.Report mid new × (result.line ≡ [])) → IsAnswer answer done → SameCounts old new
      go (inr k) x = absurd (five k.0)
      go (inl k) (inl x) = SameCounts-then old mid new (s.counts (λ e. five (k.0 ∙ x.0 ∙ e))) k.1
      go (inl k) (inr x) = SameCounts-then old mid new (s.counts x.0) k.1

  fault-cause : result.status ≡ 5 → FaultCause told words old new
  fault-cause five = go r.how (five-or-other done)
    where
      go : ((result.status ≡ answer.status) × SameCounts mid new × IsSaid told (out_of words) answer.line result.line mid new)
          ⊎ ((result.status ≡ 5) × RoseAt slots.Report mid new × (result.line ≡ [])) → (status_of done ≡ 5) ⊎ (status_of done ≢ 5)
          → FaultCause told words old new
      go k (inl e) = cause-on told words old mid new r.falls (s.cause e)
      go (inl k) (inr other) = absurd (other (answer-five a (sym k.0 ∙ five)))
      go (inr k) (inr other) = by_report (Rose-after_same _ _ _ ((s.counts other).same slots.Report) k.1)

  silent : (result.status ≡ 5) ⊎ (result.status ≡ 6) → result.line ≡ []
  silent e = go r.how
    where
      go : ((result.status ≡ answer.status) × SameCounts mid new × IsSaid told (out_of words) answer.line result.line mid new)
          ⊎ ((result.status ≡ 5) × RoseAt slots.Report mid new × (result.line ≡ [])) → result.line ≡ []
      go (inl k) = line-quiet told (out_of words) answer.line result.line mid new (answer-quiet a (either-status k.0 e)) k.2
      go (inr k) = k.2

  report-same : (out : Option (List ℕ)) (name : List ℕ) → out ≡ Some name → Stays (sink_of out) old mid → mid.slot_of slots.Report ≡ old.slot_of slots.Report
  report-same None name e stays = absurd (cc)
  report-same (Some other) name e stays = stays slots.Report

  said-nothing : (out : Option (List ℕ)) (name : List ℕ) (said line : List ℕ) → out ≡ Some name → said ≡ [] → IsSaid told out said line mid new
      → IsTrue told.written → (new.slot_of slots.Report).written ≡ (mid.slot_of slots.Report).written
  said-nothing None name said line e none i tells = absurd (cc)
  said-nothing (Some other) name said line e none i tells =
      i.1 tells ∙ ap (λ (xs : List ℕ). (mid.slot_of slots.Report).written ++ xs) none ∙ append-nil (mid.slot_of slots.Report).written

  unreported : (result.status ≡ 5) ⊎ (result.status ≡ 6) → (name : List ℕ) → out_of words ≡ Some name → IsTrue told.written
      → ((new.slot_of slots.Report).written ≡ (old.slot_of slots.Report).written) ⊎ RoseAt slots.Report old new
  unreported e name out tells = go r.how
    where
      same : mid.slot_of slots.Report ≡ old.slot_of slots.Report
      same = report-same (out_of words) name out s.stays

      go : ((result.status ≡ answer.status) × SameCounts mid new × IsSaid told (out_of words) answer.line result.line mid new)
          ⊎ ((result.status ≡ 5) × RoseAt slots.Report mid new × (result.line ≡ []))
          → ((new.slot_of slots.Report).written ≡ (old.slot_of slots.Report).written) ⊎ RoseAt slots.Report old new
      go (inl k) =
          inl (said-nothing (out_of words) name answer.line result.line out (answer-quiet a (either-status k.0 e)) k.2 tells
          ∙ ap (λ (x : SlotState). x.written) same)
      go (inr k) = inr (Rose-after_same _ _ _ (ap (λ (x : SlotState). x.faults) same) k.1)

  front-all : IsTold told → IsTrue told.written → (n : Named) → meaning words ≡ Ok n → IsFront told n old new
  front-all tells writes n e =
      front-on told n old mid new
      (subst (λ out. new.slot_of (slot_of (sink_of out)) ≡ mid.slot_of (slot_of (sink_of out))) (sym (out-is words n e))
      (trace-still told (out_of words) answer result mid new r))
      (s.front tells writes n e)

  pub promise : Headline told words result.status result.line old new
  promise = record {
    known = known;
    defined = λ tells. defined tells;
    counts_rise = NoCountFalls-then old mid new s.falls r.falls;
    counts_stay = counts-stay;
    fault_cause = fault-cause;
    silent = silent;
    unreported = unreported;
    front = λ tells. front-all tells;
    files = λ tells writes name. files-on told words old mid new name r.files (s.files tells writes name);
    stays = λ slot. may-change (out_of words) slot old mid new s.stays r.others r.report;
    untouched = λ fault e slot other. r.others slot other ∙ ap (λ (x : State). x.slot_of slot) (s.untouched fault e);
  }
