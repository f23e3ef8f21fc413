-- The program's promise, from what was done and what was reported.
use Rattle.std.proofs.Common.{◌≡◌, ◌≢◌, ◌⊎◌, ℕ, ◌<◌, ◌≤◌, List, ◌++◌, take, Bool, false, ⊎_elim, inl, inr, refl, sym, ap, ◌∙◌, subst, arith}
use Rattle.ccsl_edge.specs.declared.slot.Slot.{Slot}
use Rattle.ccsl_edge.specs.declared.slot.Slot.TheVariants.{Report, TraceOut, CertOut}
use Rattle.ccsl_edge.specs.World.{State, SlotState, Told, risen}
use Rattle.ccsl_edge.specs.Calls.{Adds, AddsFront}
use Rattle.ccsl_top.specs.declared.reply.Status.{Status}
use Rattle.ccsl_top.specs.declared.reply.Status.TheVariants.{Done, No, WordsRefused, SpecRefused, FileRefused, Deadlock}
use Rattle.ccsl_top.specs.declared.reply.Reply.{Reply}
use Rattle.ccsl_command.specs.Meaning.{meaning}
use Rattle.ccsl_top.specs.Statuses.{answers_of}
use Rattle.ccsl_top.specs.Opening.{is_slot, may_change}
use Rattle.ccsl_top.specs.Effects.{RoseAt}
use Rattle.ccsl_top.specs.Answered.{code_of, AreOpened, AreClosed, Answered, Faulted, Starved, IsUnanswered}
use Rattle.ccsl_edge.specs.declared.stop.Stop.{Stop}
use Rattle.ccsl_edge.specs.declared.stop.Stop.TheVariants.{Fault, Memory}
use Rattle.ccsl_top.specs.Stopping.{stop_code}
use Rattle.ccsl_top.specs.Headline.{Headline, ReportGrows, AreHeld, by_report}
use Rattle.ccsl_top.proofs.Slots.{is_slot-same, is_slot-differs, output-differs}
use Rattle.ccsl_top.proofs.Effects.{by-test}
use Rattle.ccsl_top.proofs.Reaching.{opened-used, reach-all, among-more}
use Rattle.ccsl_top.proofs.Frames.{Frame, report-same, frame-still, frame-reported}
use Rattle.std.proofs.lemmas.Bool.{both_ways}

code-answers : (s : Status) → (code_of s ≢ 5) × (code_of s ≢ 6)
code-answers Done = (λ e. omega (arith, e), λ e. omega (arith, e))
code-answers No = (λ e. omega (arith, e), λ e. omega (arith, e))
code-answers WordsRefused = (λ e. omega (arith, e), λ e. omega (arith, e))
code-answers SpecRefused = (λ e. omega (arith, e), λ e. omega (arith, e))
code-answers FileRefused = (λ e. omega (arith, e), λ e. omega (arith, e))
code-answers Deadlock = (λ e. omega (arith, e), λ e. omega (arith, e))

-- 5 and 6 are no answers
no-answer : {P : Type 0} (status : ℕ) → (status ≡ 5) ⊎ (status ≡ 6) → (status ≡ 0) ⊎ (status ≡ 8) → P
no-answer status five-six zero-eight = absurd (⊎_elim
    (λ (a : status ≡ 5). ⊎_elim (λ (b : status ≡ 0). omega (arith, a, b)) (λ (b : status ≡ 8). omega (arith, a, b)) zero-eight)
    (λ (a : status ≡ 6). ⊎_elim (λ (b : status ≡ 0). omega (arith, a, b)) (λ (b : status ≡ 8). omega (arith, a, b)) zero-eight)
    five-six)

-- what a run without an answer does not reach was not used
module _ (words : List (List ℕ)) (used : Slot → Bool) (opened : AreOpened words used) (status : ℕ) (none : (status ≡ 5) ⊎ (status ≡ 6)) where
  unlike : (n : ℕ) → n < 5 → status ≢ n
  unlike n few e = ⊎_elim (λ (a : status ≡ 5). omega (arith, a, e, few)) (λ (a : status ≡ 6). omega (arith, a, e, few)) none

  unreached : (slot : Slot) → may_change words status slot ≡ false → used slot ≡ false
  unreached slot e = by-test (used slot)
      (λ yes. absurd (both_ways (may_change words status slot) e
      (reach-all words slot status (unlike 1 (omega arith)) (unlike 3 (omega arith)) (unlike 4 (omega arith)) (opened-used words slot (opened slot yes)))))
      (λ no. no)

module _ (told : Told) (words : List (List ℕ)) (old : State) where
  module _ (reply : Reply) (mid new : State) (a : Answered told words reply old mid) where
    same : mid.slot_of Report ≡ old.slot_of Report
    same = report-same told words a.used old mid a.leaves

    not-five : {P : Type 0} → code_of reply.status ≡ 5 → P
    not-five e = absurd ((code-answers reply.status).0 e)

    not-six : {P : Type 0} → code_of reply.status ≡ 6 → P
    not-six e = absurd ((code-answers reply.status).1 e)

    -- the answer was reported
    module _ (adds : Adds told Report reply.line.items mid new) where
      frame : Frame told words a.used old new
      frame = frame-reported told words a.used old mid a.leaves new adds.only (adds.here ∙ written-alone adds.here) (let e =
          ap (λ s. s.faults) adds.here in omega (arith, e))
        where
          written-alone : new.slot_of Report ≡ record (mid.slot_of Report) { written = (new.slot_of Report).written } →
              record (mid.slot_of Report) { written = (new.slot_of Report).written } ≡ record (mid.slot_of Report) {
                written =
                    (new.slot_of Report).written;
                faults = (new.slot_of Report).faults;
              }
          written-alone e = sym (ap (λ n. let S : SlotState =
              record (mid.slot_of Report) { written = (new.slot_of Report).written; faults = n } in S) (ap (λ s. s.faults) e))

      counts : (slot : Slot) → (new.slot_of slot).faults ≡ (old.slot_of slot).faults
      counts slot = by-test (is_slot Report slot)
          (λ yes. subst (λ s. (new.slot_of s).faults ≡ (old.slot_of s).faults) (is_slot-same Report slot yes)
          (ap (λ s. s.faults) adds.here ∙ ap (λ s. s.faults) same))
          (λ no. ap (λ s. s.faults) (adds.only.others slot (is_slot-differs Report slot no)) ∙ a.counts slot)

      grows : ReportGrows told old new reply.line.items
      grows w = adds.end w ∙ ap (λ s. s.written ++ reply.line.items) same

      outside : (slot : Slot) → may_change words (code_of reply.status) slot ≡ false → a.used slot ≡ false
      outside slot e = by-test (a.used slot) (λ yes. absurd (both_ways (may_change words (code_of reply.status) slot) e (a.within slot yes))) (λ no. no)

      -- the slots of the files are as they were
      closed : AreClosed words (code_of reply.status) new
      closed e slot out opened = ap (λ x. x.is_open) (adds.only.others slot (output-differs Report slot refl out)) ∙ a.closed e slot out opened

      pub headline-reported : Headline told words (code_of reply.status) old new
      headline-reported = record {
        known = among-more (answers_of (meaning words)) (code_of reply.status) a.known;
        defined = λ t _ _. let s = a.stands t in record {
          reports = record { outcome = s.outcome; is = s.defined.is; grows = subst (ReportGrows told old new) s.report_is grows };
          status_is = s.status_is;
          files = λ w. subst (λ fs. AreHeld fs s.outcome.outputs) (sym adds.only.files) (s.defined.files w);
        };
        counts_rise = frame.rises;
        counts_stay = λ _. counts;
        fault_cause = not-five;
        unreported = λ e _. not-five e;
        silent = λ e _. not-six e;
        front = λ _ e. ⊎_elim not-five not-six e;
        early = λ _. not-six;
        whole = frame.whole;
        fronts = frame.fronts;
        closed = closed;
        stays = λ slot n e. frame.kept slot n (outside slot e);
        unwritten = λ t c. frame.unwritten (outside TraceOut t) (outside CertOut c);
        files = frame.files;
        rest = λ _. inl frame.input;
        read = frame.slots;
        report = frame.report;
      }

    -- a call on the report failed
    module _ (front : AddsFront told Report reply.line.items mid new) where
      part : Frame told words a.used old new
      part = frame-reported told words a.used old mid a.leaves new front.only front.here front.rose.0

      rose : RoseAt Report old new
      rose = subst (λ s. let faults : ℕ = s.faults in (faults ≤ (new.slot_of Report).faults) × (risen faults ≤ (new.slot_of Report).faults)) same front.rose

      pub headline-unreported : Headline told words 5 old new
      headline-unreported = record {
        known = (0, omega arith, refl);
        defined = λ _ n _. absurd (n refl);
        counts_rise = part.rises;
        counts_stay = λ n. absurd (n refl);
        fault_cause = λ _. by_report rose;
        unreported = λ _ _. inr rose;
        silent = λ e _. absurd (omega (arith, e));
        front = λ t _. let s = a.stands t in inr (
          front.count,
          record {
            outcome = s.outcome;
            is = s.defined.is;
            grows = λ w. front.front w ∙ ap (λ x. x.written ++ take front.count reply.line.items) same
                ∙ ap (λ t. (old.slot_of Report).written ++ take front.count t) s.report_is;
          },
        );
        early = λ _ e. absurd (omega (arith, e));
        whole = part.whole;
        fronts = part.fronts;
        closed = no-answer 5 (inl refl);
        stays = λ slot n e. part.kept slot n (unreached words a.used a.leaves.opened 5 (inl refl) slot e);
        unwritten = λ t c.
            part.unwritten (unreached words a.used a.leaves.opened 5 (inl refl) TraceOut t) (unreached words a.used a.leaves.opened 5 (inl refl) CertOut c);
        files = part.files;
        rest = λ _. inl part.input;
        read = part.slots;
        report = part.report;
      }

  module _ (new : State) where
    -- a call on a file failed
    pub headline-faulted : Faulted told words old new → Headline told words 5 old new
    headline-faulted f =
        let still : Frame told words f.used old new = frame-still told words f.used old new f.leaves in
        let same = report-same told words f.used old new f.leaves in
        record {
          known = (0, omega arith, refl);
          defined = λ _ n _. absurd (n refl);
          counts_rise = still.rises;
          counts_stay = λ n. absurd (n refl);
          fault_cause = λ _. f.cause;
          unreported = λ _ _. inl same;
          silent = λ e _. absurd (omega (arith, e));
          front = λ _ _. inl (ap (λ s. s.written) same);
          early = λ _ e. absurd (omega (arith, e));
          whole = still.whole;
          fronts = still.fronts;
          closed = no-answer 5 (inl refl);
          stays = λ slot n e. still.kept slot n (unreached words f.used f.leaves.opened 5 (inl refl) slot e);
          unwritten = λ t c.
              still.unwritten (unreached words f.used f.leaves.opened 5 (inl refl) TraceOut t) (unreached words f.used f.leaves.opened 5 (inl refl) CertOut c);
          files = still.files;
          rest = λ _. inl still.input;
          read = still.slots;
          report = still.report;
        }

    -- no memory was to be had
    pub headline-starved : Starved told words old new → Headline told words 6 old new
    headline-starved s =
        let still : Frame told words s.used old new = frame-still told words s.used old new s.leaves in
        let same = report-same told words s.used old new s.leaves in
        record {
          known = (1, omega arith, refl);
          defined = λ _ _ n. absurd (n refl);
          counts_rise = still.rises;
          counts_stay = λ _. s.counts;
          fault_cause = λ e. absurd (omega (arith, e));
          unreported = λ e _. absurd (omega (arith, e));
          silent = λ _ _. same;
          front = λ _ _. inl (ap (λ s. s.written) same);
          early = λ t _. s.early t;
          whole = still.whole;
          fronts = still.fronts;
          closed = no-answer 6 (inr refl);
          stays = λ slot n e. still.kept slot n (unreached words s.used s.leaves.opened 6 (inr refl) slot e);
          unwritten = λ t c.
              still.unwritten (unreached words s.used s.leaves.opened 6 (inr refl) TraceOut t) (unreached words s.used s.leaves.opened 6 (inr refl) CertOut c);
          files = still.files;
          rest = λ _. inl still.input;
          read = still.slots;
          report = still.report;
        }

    -- it was not answered
    pub headline-stopped : (stop : Stop) → IsUnanswered stop told words old new → Headline told words (stop_code stop) old new
    headline-stopped Fault f = headline-faulted f
    headline-stopped Memory s = headline-starved s
