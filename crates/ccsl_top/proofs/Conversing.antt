-- A session, as an answer to words that mean it.
use Rattle.std.proofs.Common.{◌≡◌, ◌≢◌, ◌⊎◌, ℕ, ◌+◌, ◌<◌, ◌≤◌, List, [], ◌∷◌, ◌++◌, length, take, true, false, Contains, ◌||◌, ◌&&◌, Result, Ok, IsTrue}
use Rattle.std.proofs.Common.{⊎_elim, inr, refl, sym, ap, ◌∙◌, subst, arith, append_assoc, take_all, le_refl}
use Rattle.std.proofs.lemmas.Bool.{cases_lt, or_parts, both_ways}
use Rattle.std.proofs.lemmas.List.{take-append-le}
use Rattle.std.proofs.Math.Seq.{take-append-add}
use Rattle.ccsl_base.specs.declared.limits.TheConstants.{MAX_FILE_BYTES}
use Rattle.ccsl_edge.specs.declared.slot.Slot.{Slot}
use Rattle.ccsl_edge.specs.declared.slot.Slot.TheVariants.{Spec, Input, Report}
use Rattle.ccsl_edge.specs.World.{State, SlotState, Told, Rose, held, file_at}
use Rattle.ccsl_edge.specs.Calls.{ChangesOnly, Adds, AddsFront}
use Rattle.ccsl_command.specs.declared.command.Command.{Command}
use Rattle.ccsl_command.specs.declared.command.Command.TheVariants as command
use Rattle.ccsl_command.specs.declared.usage.Usage.{Usage}
use Rattle.ccsl_command.specs.Meaning.{meaning}
use Rattle.ccsl_command.specs.Opened.{files_meant, files_opened}
use Rattle.ccsl_kernel.specs.Syntax.{System}
use Rattle.ccsl_policy.specs.declared.policies.Policy.{Policy}
use Rattle.ccsl_session.specs.declared.answer.Ended.{Ended}
use Rattle.ccsl_session.specs.declared.answer.Ended.TheVariants.{Quit, EndOfInput, TooLong}
use Rattle.ccsl_edge.specs.declared.stop.Stop.{Stop}
use Rattle.ccsl_edge.specs.declared.stop.Stop.TheVariants as stop
use Rattle.ccsl_session.specs.Session.{session_text, ended_by}
use Rattle.ccsl_session.specs.Rest.{LeavesRest}
use Rattle.ccsl_session.specs.Leaving.{Says, HasEnded, SameCounts, IsCut}
use Rattle.ccsl_report.specs.Texts.{session_too_long_text}
use Rattle.ccsl_top.specs.Outcome.{Outcome}
use Rattle.ccsl_top.specs.Converse.{conversed, session_outcome}
use Rattle.ccsl_top.specs.Simulate.{named_policy}
use Rattle.ccsl_top.specs.Statuses.{IsStatusOf}
use Rattle.ccsl_top.specs.Stopping.{stop_code}
use Rattle.ccsl_top.specs.Opening.{opens, uses, is_slot, is_output, is_session, may_change}
use Rattle.ccsl_top.specs.Program.{IsOutcome, accepted}
use Rattle.ccsl_top.specs.Reading.{only}
use Rattle.ccsl_top.specs.Headline.{Headline, IsTold, Answers, Reports, ReportGrows, AreHeld, FaultCause, by_report, by_input, input_of, kept, untouched}
use Rattle.ccsl_top.specs.Conversing.{Begins}
use Rattle.ccsl_top.proofs.Slots.{is_slot-same, is_slot-other, is_slot-differs, output-differs}
use Rattle.ccsl_top.proofs.Effects.{Changed, by-test, uses-changed, uses-rises}
use Rattle.ccsl_top.proofs.Reaching.{reach-read}
use Rattle.ccsl_top.proofs.Writing.{on-output}
use Rattle.ccsl_top.proofs.Behind.{is-outcome, behind-told}

-- FRONTS of the text that is reported

-- a front of the answers is one of all that is reported
conversed-front : (e : Ended) (t : List ℕ) (n : ℕ) → (m : ℕ) × (take n t ≡ take m (conversed e t).report)
conversed-front Quit t n = (n, refl)
conversed-front EndOfInput t n = (n, refl)
conversed-front TooLong t n = ⊎_elim
    (λ (l : n < length t). (n, sym (take-append-le n t session_too_long_text (omega (arith, l)))))
    (λ (m : length t ≤ n). (
      length t,
      take_all n t m ∙ sym
          (take-append-le (length t) t session_too_long_text (le_refl (length t)) ∙ take_all (length t) t (le_refl (length t))),
    ))
    (cases_lt n (length t))

-- THE SLOTS that a session changes, beside the specification's
by-slot : (Q : Slot → Type 0) → Q Input → Q Report → ((slot : Slot) → slot ≢ Input → slot ≢ Report → Q slot) → (slot : Slot) → Q slot
by-slot Q i r other slot = by-test (is_slot Input slot)
    (λ yes. subst Q (is_slot-same Input slot yes) i)
    (λ no. by-test (is_slot Report slot)
    (λ yes. subst Q (is_slot-same Report slot yes) r)
    (λ n. other slot (is_slot-differs Input slot no) (is_slot-differs Report slot n)))

input-apart : Input ≢ Report
input-apart = is_slot-differs Report Input refl

-- what a session has said so far, and what it has left as it was
record Talk (told : Told) (start now : State) (said : List ℕ) : Type 0 where
  pub files : now.files ≡ start.files
  pub others : (slot : Slot) → slot ≢ Spec → slot ≢ Input → slot ≢ Report → now.slot_of slot ≡ start.slot_of slot
  pub inputs : (slot : Slot) → slot ≢ Report → Changed (start.slot_of slot) (now.slot_of slot)
  pub rises : (slot : Slot) → (start.slot_of slot).faults ≤ (now.slot_of slot).faults
  pub report : now.slot_of Report ≡ record (start.slot_of Report) { written = (now.slot_of Report).written; faults = (now.slot_of Report).faults }
  pub grows : ReportGrows told start now said
  pub rest : IsTrue told.left → LeavesRest MAX_FILE_BYTES (input_of start) (input_of now)

-- a line more on the report
talk-more : (told : Told) (start now new : State) (said more : List ℕ) → Talk told start now said → ChangesOnly Report now new →
    new.slot_of Report ≡ record (now.slot_of Report) { written = (new.slot_of Report).written; faults = (new.slot_of Report).faults } →
    (now.slot_of Report).faults ≤ (new.slot_of Report).faults → ReportGrows told now new more → Talk told start new (said ++ more)
talk-more told start now new said more t alone here rise grows = record {
  files = alone.files ∙ t.files;
  others = λ slot a b d. alone.others slot d ∙ t.others slot a b d;
  inputs = λ slot n. subst (Changed (start.slot_of slot)) (sym (alone.others slot n)) (t.inputs slot n);
  rises = λ slot. by-test (is_slot Report slot)
      (λ yes. subst (λ x. (start.slot_of x).faults ≤ (new.slot_of x).faults) (is_slot-same Report slot yes) (let r = t.rises Report in omega (arith, r, rise)))
      (λ no. let e = ap (λ x. x.faults) (alone.others slot (is_slot-differs Report slot no)) in let r = t.rises slot in omega (arith, e, r));
  report = here ∙ ap (λ (x : SlotState). let S : SlotState =
      record x { written = (new.slot_of Report).written; faults = (new.slot_of Report).faults } in S) t.report;
  grows = λ w. grows w ∙ ap (λ x. x ++ more) (t.grows w) ∙ append_assoc (start.slot_of Report).written said more;
  rest = λ l. subst (λ (x : SlotState). LeavesRest MAX_FILE_BYTES (input_of start) x.left) (sym (alone.others Input input-apart)) (t.rest l);
}

written-alone : (a b : SlotState) → b ≡ record a { written = b.written } → b ≡ record a { written = b.written; faults = b.faults }
written-alone a b e = e ∙ sym (ap (λ n. let S : SlotState = record a { written = b.written; faults = n } in S) (ap (λ x. x.faults) e))

module _ (told : Told) (words : List (List ℕ)) (K : System) (policy : Policy) (seed : ℕ) (start begun : State)
    (b : Begins told words K policy seed start begun) where
  abbrev c : Command
  c = command.Session b.spec b.name seed

  abbrev IsAnswer : (List ℕ → List ℕ) → List ℕ → System → Outcome → Type 0
  IsAnswer content input K o = o ≡ session_outcome K (named_policy b.name) seed input

  -- the input, the answers to it, and how they end
  abbrev input : List ℕ
  input = (begun.slot_of Input).left

  abbrev text : List ℕ
  text = session_text K policy seed MAX_FILE_BYTES input

  abbrev ended : Ended
  ended = ended_by K policy seed MAX_FILE_BYTES input

  input-same : begun.slot_of Input ≡ start.slot_of Input
  input-same = b.reads.uses.others Input refl

  report-same : begun.slot_of Report ≡ start.slot_of Report
  report-same = b.reads.uses.others Report refl

  outcome-is : IsTrue told.files → IsTrue told.left → IsOutcome words (held start.files) (input_of start) (conversed ended text)
  outcome-is f l = is-outcome told words c b.means b.spec [] refl IsAnswer (λ content input o x. x) (held start.files) (input_of start) (conversed ended text)
      (accepted K (b.system f l) (ap (λ p. session_outcome K p seed input) b.policy_is
      ∙ ap (λ (x : SlotState). session_outcome K (named_policy b.name) seed x.left) input-same))

  -- THE PROMISE, from what was said
  module _ (new : State) (said : List ℕ) (t : Talk told start new said) where
    closed-apart : (slot : Slot) → uses words slot ≡ false → (slot ≢ Spec) × (slot ≢ Input)
    closed-apart slot e =
        let opened : opens (files_opened words) slot ≡ (is_slot Spec slot || false) = ap (λ m. opens (files_meant m) slot) b.means in
        let asks : is_session (meaning words) ≡ true = ap is_session b.means in
        let a : (is_slot Spec slot || false) ≡ false =
        sym opened ∙ (or_parts (opens (files_opened words) slot) (is_session (meaning words) && is_slot slot Input) e).0 in
        let i : (true && is_slot slot Input) ≡ false =
        sym (ap (λ x. x && is_slot slot Input) asks) ∙ (or_parts (opens (files_opened words) slot) (is_session (meaning words) && is_slot slot Input) e).1 in
        (is_slot-differs Spec slot (or_parts (is_slot Spec slot) false a).0, λ same. is_slot-differs slot Input i (sym same))

    clash : (d : Command) → meaning words ≡ Ok d → c ≡ d
    clash d e = let same : (let R : Result Command Usage = Ok c in R) ≡ Ok d = sym b.means ∙ e in cc

    never-judged : (spec trace : List ℕ) (workers : ℕ) → meaning words ≡ Ok (command.Judge spec trace workers) → ⊥
    never-judged spec trace workers e = let same = clash (command.Judge spec trace workers) e in absurd (cc)

    -- a slot that is not reached is neither the specification's nor the input's
    unreached : (status : ℕ) → status ≢ 3 → (slot : Slot) → may_change words status slot ≡ false → (slot ≢ Spec) × (slot ≢ Input)
    unreached status three slot e = by-test (is_output slot)
        (λ out. (output-differs Spec slot refl out, output-differs Input slot refl out))
        (λ out. closed-apart slot
        (by-test (uses words slot) (λ yes. absurd (both_ways (may_change words status slot) e (reach-read words slot status three out yes))) (λ no. no)))

    -- no output slot is opened
    none-opened : (slot : Slot) → is_output slot ≡ true → opens (files_opened words) slot ≡ false
    none-opened slot out = ap (λ m. opens (files_meant m) slot) b.means ∙ on-output (λ x. (is_slot Spec x || false) ≡ false) refl refl slot out

    promised : (status : ℕ) → Contains (5 ∷ 6 ∷ 0 ∷ 3 ∷ 4 ∷ []) status → status ≢ 3 →
        (IsTold told words → status ≢ 5 → status ≢ 6 → Answers told words status start new) →
        (status ≢ 5 → (slot : Slot) → (new.slot_of slot).faults ≡ (start.slot_of slot).faults) →
        (status ≡ 5 → FaultCause told words start new) →
        (IsTold told words → (status ≡ 5) ⊎ (status ≡ 6) → (count : ℕ) × Reports told words start new (take count)) → Headline told words status start new
    promised status known three defined counts cause front = record {
      known = subst (λ m. IsStatusOf m status) (sym b.means) known;
      defined = defined;
      counts_rise = t.rises;
      counts_stay = counts;
      fault_cause = cause;
      unreported = λ _ e. absurd (both_ways (is_session (meaning words)) e (ap is_session b.means));
      silent = λ _ e. absurd (both_ways (is_session (meaning words)) e (ap is_session b.means));
      front = λ tells e. inr (front tells e);
      early = λ _ _ spec trace workers e. absurd (never-judged spec trace workers e);
      whole = λ _ _ name. kept (ap (λ fs. file_at fs name) t.files);
      fronts = λ _ _ slot out. untouched (ap (λ x. x.written)
          (t.others slot (output-differs Spec slot refl out) (output-differs Input slot refl out) (output-differs Report slot refl out)));
      closed = λ _ slot out opened. absurd (both_ways (opens (files_opened words) slot) (none-opened slot out) opened);
      rest = λ l. inr (t.rest l);
      stays = λ slot n e. let apart = unreached status three slot e in t.others slot apart.0 apart.1 n;
      unwritten = λ _ _ name. ap (λ fs. file_at fs name) t.files;
      files = λ _ _ name _. ap (λ fs. file_at fs name) t.files;
      read = λ slot n _. t.inputs slot n;
      report = t.report;
    }

    as-told : {P : Type 0} → (IsTrue told.files → IsTrue told.left → P) → IsTold told words → P
    as-told = behind-told told words c b.means b.spec [] refl IsAnswer (λ content input o x. x)

    -- all was said
    answered : (status : ℕ) → status ≡ (conversed ended text).status → (IsTrue told.left → said ≡ (conversed ended text).report) →
        [] ≡ (conversed ended text).outputs → IsTrue told.files → IsTrue told.left → Answers told words status start new
    answered status status_is all none f l = record {
      reports = record {
        outcome = conversed ended text;
        is = outcome-is f l;
        grows = λ w. t.grows w ∙ ap (λ x. (start.slot_of Report).written ++ x) (all l);
      };
      status_is = status_is;
      files = λ _. subst (AreHeld new.files) none (record {});
    }

    -- a front was said
    fronted : (IsTrue told.left → (n : ℕ) × (said ≡ take n (conversed ended text).report)) → IsTold told words
        → (count : ℕ) × Reports told words start new (take count)
    fronted front = as-told (λ f l. (
      (front l).0,
      record {
        outcome = conversed ended text;
        is = outcome-is f l;
        grows = λ w. t.grows w ∙ ap (λ x. (start.slot_of Report).written ++ x) (front l).1;
      },
    ))

    -- no memory was to be had
    starved : ((slot : Slot) → (new.slot_of slot).faults ≡ (start.slot_of slot).faults) →
        (IsTrue told.left → (n : ℕ) × (said ≡ take n (conversed ended text).report)) → Headline told words 6 start new
    starved counts front = promised 6 (1, omega arith, refl) (λ e. omega (arith, e)) (λ _ _ n. absurd (n refl)) (λ _. counts)
        (λ e. absurd (omega (arith, e))) (λ tells _. fronted front tells)

    -- a call failed
    faulted : FaultCause told words start new → (IsTrue told.left → (n : ℕ) × (said ≡ take n (conversed ended text).report)) → Headline told words 5 start new
    faulted cause front = promised 5 (0, omega arith, refl) (λ e. omega (arith, e)) (λ _ n _. absurd (n refl)) (λ n. absurd (n refl))
        (λ _. cause) (λ tells _. fronted front tells)

    -- it has ended
    closed : (status : ℕ) → Contains (5 ∷ 6 ∷ 0 ∷ 3 ∷ 4 ∷ []) status → status ≢ 3 → status ≤ 4
        → ((slot : Slot) → (new.slot_of slot).faults ≡ (start.slot_of slot).faults) →
        (IsTrue told.left → status ≡ (conversed ended text).status) → (IsTrue told.left → said ≡ (conversed ended text).report) →
        (IsTrue told.left → [] ≡ (conversed ended text).outputs) → Headline told words status start new
    closed status known three low counts status_is all none = promised status known three
        (λ tells _ _. as-told (λ f l. answered status (status_is l) all (none l) f l) tells) (λ _. counts) (λ e. absurd (omega (arith, e, low)))
        (λ _ e. absurd (⊎_elim (λ (n : status ≡ 5). omega (arith, n, low)) (λ (n : status ≡ 6). omega (arith, n, low)) e))

  -- WHAT THE SESSION HAS SAID
  module _ (now : State) (said : List ℕ) (s : Says told K policy seed MAX_FILE_BYTES begun now said) where
    talk : (begun.slot_of Input).faults ≤ (now.slot_of Input).faults → (begun.slot_of Report).faults ≤ (now.slot_of Report).faults →
        (IsTrue told.left → LeavesRest MAX_FILE_BYTES input (input_of now)) → Talk told start now said
    talk input_rises report_rises rest = record {
      files = s.files ∙ b.reads.uses.files;
      others = λ slot x i r. s.others slot i r ∙ b.reads.uses.others slot (is_slot-other Spec slot x);
      inputs = λ slot n. by-test (is_slot Input slot)
          (λ yes. subst (λ x. Changed (start.slot_of x) (now.slot_of x)) (is_slot-same Input slot yes)
          (subst (λ x. Changed x (now.slot_of Input)) input-same s.input))
          (λ no. subst (Changed (start.slot_of slot)) (sym (s.others slot (is_slot-differs Input slot no) n))
          (uses-changed (only Spec) start begun b.reads.uses slot));
      rises = by-slot (λ x. (start.slot_of x).faults ≤ (now.slot_of x).faults)
          (let e = ap (λ (x : SlotState). x.faults) input-same in omega (arith, e, input_rises))
          (let e = ap (λ (x : SlotState). x.faults) report-same in omega (arith, e, report_rises))
          (λ slot i r. let e = ap (λ (x : SlotState). x.faults) (s.others slot i r) in let u =
          uses-rises (only Spec) start begun b.reads.uses slot in omega (arith, e, u));
      report = s.report ∙ ap (λ (x : SlotState). let S : SlotState =
          record x { written = (now.slot_of Report).written; faults = (now.slot_of Report).faults } in S) report-same;
      grows = λ w. s.grows w ∙ ap (λ (x : SlotState). x.written ++ said) report-same;
      rest = λ l. subst (λ (x : SlotState). LeavesRest MAX_FILE_BYTES x.left (input_of now)) input-same (rest l);
    }

    same-counts : SameCounts told K policy seed MAX_FILE_BYTES begun now → (slot : Slot) → (now.slot_of slot).faults ≡ (start.slot_of slot).faults
    same-counts same = by-slot (λ x. (now.slot_of x).faults ≡ (start.slot_of x).faults)
        (same.input ∙ ap (λ (x : SlotState). x.faults) input-same)
        (same.report ∙ ap (λ (x : SlotState). x.faults) report-same)
        (λ slot i r. ap (λ (x : SlotState). x.faults) (s.others slot i r) ∙ b.reads.counts slot)

    calm : SameCounts told K policy seed MAX_FILE_BYTES begun now → (IsTrue told.left → LeavesRest MAX_FILE_BYTES input (input_of now))
        → Talk told start now said
    calm same rest = talk (let e = same.input in omega (arith, e)) (let e = same.report in omega (arith, e)) rest

  -- IT WAS CUT SHORT
  module _ (now : State) where
    cut-front : (said : List ℕ) → ((n : ℕ) × (said ≡ take n text)) → (n : ℕ) × (said ≡ take n (conversed ended text).report)
    cut-front said p = let m = conversed-front ended text p.0 in (m.0, p.1 ∙ m.1)

    pub session-cut : (why : Stop) → IsCut told K policy seed MAX_FILE_BYTES begun now why → Headline told words (stop_code why) start now
    session-cut stop.Memory cut =
        starved now cut.text (calm now cut.text cut.says cut.cause cut.rest) (same-counts now cut.text cut.says cut.cause)
        (λ l. cut-front cut.text (cut.front l))
    session-cut stop.Fault cut =
        faulted now cut.text (talk now cut.text cut.says cut.cause.input cut.cause.report cut.rest) (⊎_elim
        (λ r. by_input b.spec b.name seed b.means (λ f l. (K, b.system f l))
        (subst (λ (x : SlotState). Rose x.faults (now.slot_of Input).faults) input-same r))
        (λ r. by_report (subst (λ (x : SlotState). Rose x.faults (now.slot_of Report).faults) report-same r))
        cut.cause.one) (λ l. cut-front cut.text (cut.front l))

    -- IT HAS ENDED
    module _ (how : Ended) (h : HasEnded told K policy seed MAX_FILE_BYTES begun now how) where
      ended-talk : Talk told start now h.text
      ended-talk = calm now h.text h.says h.counts h.rest

      ended-counts : (slot : Slot) → (now.slot_of slot).faults ≡ (start.slot_of slot).faults
      ended-counts = same-counts now h.text h.says h.counts

      as-defined : IsTrue told.left → conversed how h.text ≡ conversed ended text
      as-defined l = ap (λ e. conversed e h.text) (h.by l) ∙ ap (conversed ended) (h.all l)

    pub session-quit : HasEnded told K policy seed MAX_FILE_BYTES begun now Quit → Headline told words 0 start now
    session-quit h = closed now h.text (ended-talk Quit h) 0 (2, omega arith, refl) (λ e. omega (arith, e)) (omega arith) (ended-counts Quit h)
        (λ l. ap (λ o. o.status) (as-defined Quit h l)) (λ l. ap (λ o. o.report) (as-defined Quit h l)) (λ l. ap (λ o. o.outputs) (as-defined Quit h l))

    pub session-done : HasEnded told K policy seed MAX_FILE_BYTES begun now EndOfInput → Headline told words 0 start now
    session-done h = closed now h.text (ended-talk EndOfInput h) 0 (2, omega arith, refl) (λ e. omega (arith, e)) (omega arith) (ended-counts EndOfInput h)
        (λ l. ap (λ o. o.status) (as-defined EndOfInput h l)) (λ l. ap (λ o. o.report) (as-defined EndOfInput h l))
        (λ l. ap (λ o. o.outputs) (as-defined EndOfInput h l))

    -- THE INPUT IS TOO LONG, and a line more is to be said
    module _ (h : HasEnded told K policy seed MAX_FILE_BYTES begun now TooLong) where
      pub long-starved : Headline told words 6 start now
      long-starved = starved now h.text (ended-talk TooLong h) (ended-counts TooLong h)
          (λ l. (
            length h.text,
            sym (take-append-le (length h.text) h.text session_too_long_text (le_refl (length h.text))
                ∙ take_all (length h.text) h.text (le_refl (length h.text)))
                ∙ ap (λ o. take (length h.text) o.report) (as-defined TooLong h l),
          ))

      module _ (new : State) (line : List ℕ) (line_is : line ≡ session_too_long_text) where
        pub long-reported : Adds told Report line now new → Headline told words 4 start new
        long-reported adds = closed new (h.text ++ line)
            (talk-more told start now new h.text line (ended-talk TooLong h) adds.only (written-alone (now.slot_of Report) (new.slot_of Report) adds.here)
            (let e = ap (λ x. x.faults) adds.here in omega (arith, e)) adds.end)
            4 (4, omega arith, refl) (λ e. omega (arith, e)) (omega arith)
            (λ slot. by-test (is_slot Report slot)
            (λ yes. subst (λ x. (new.slot_of x).faults ≡ (start.slot_of x).faults) (is_slot-same Report slot yes)
            (ap (λ x. x.faults) adds.here ∙ ended-counts TooLong h Report))
            (λ no. ap (λ x. x.faults) (adds.only.others slot (is_slot-differs Report slot no)) ∙ ended-counts TooLong h slot))
            (λ l. ap (λ o. o.status) (as-defined TooLong h l))
            (λ l. ap (λ x. h.text ++ x) line_is ∙ ap (λ o. o.report) (as-defined TooLong h l))
            (λ l. ap (λ o. o.outputs) (as-defined TooLong h l))

        pub long-unreported : AddsFront told Report line now new → Headline told words 5 start new
        long-unreported front = faulted new (h.text ++ take front.count line)
            (talk-more told start now new h.text (take front.count line) (ended-talk TooLong h) front.only front.here front.rose.0 front.front)
            (by_report (subst (λ n. Rose n (new.slot_of Report).faults) (ended-counts TooLong h Report) front.rose))
            (λ l. (
              length h.text + front.count,
              sym (take-append-add h.text line front.count)
                  ∙ ap (λ x. take (length h.text + front.count) (h.text ++ x)) line_is
                  ∙ ap (λ o. take (length h.text + front.count) o.report) (as-defined TooLong h l),
            ))
