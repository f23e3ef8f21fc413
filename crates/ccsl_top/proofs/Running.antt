-- What is explained behind a run, and behind a trace.
use Rattle.std.proofs.Common.{◌≡◌, ℕ, List, ◌++◌, length, Result, Ok, Err, IfOk, IfErr, IsTrue, inl, inr, refl, sym, ap, ap₂, ◌∙◌, subst}
use Rattle.std.specs.Prelude.{codes}
use Rattle.ccsl_base.specs.declared.rows.Row.{Row}
use Rattle.ccsl_edge.specs.declared.slot.Slot.TheVariants.{Trace}
use Rattle.ccsl_edge.specs.World.{State, Told, held}
use Rattle.ccsl_edge.specs.Calls.{OpensIn}
use Rattle.ccsl_formula.specs.Formula.{Formula}
use Rattle.ccsl_kernel.specs.Syntax.{System}
use Rattle.ccsl_kernel.specs.Lives.{Step}
use Rattle.ccsl_kernel.specs.Verdict.{Verdict, verdict, completed_rows}
use Rattle.ccsl_kernel.specs.Verdict as kernel
use Rattle.ccsl_refute.specs.declared.line.Line.{Line}
use Rattle.ccsl_state.specs.Held.{Held, StandsFor}
use Rattle.ccsl_items.specs.Formulas.{item_formulas, scope_of}
use Rattle.ccsl_explain.specs.declared.explanation.Explained.{Explained}
use Rattle.ccsl_explain.specs.declared.explanation.Explained.TheVariants.{Blocked}
use Rattle.ccsl_explain.specs.Explained.{IsExplained}
use Rattle.ccsl_explain.specs.Explains.{Explains}
use Rattle.ccsl_certify.specs.Replaying.{IsTrace, AreAfter}
use Rattle.ccsl_report.specs.Texts.{broken_text, explain_blocked_text}
use Rattle.ccsl_edge.specs.declared.stop.Stop.{Stop}
use Rattle.ccsl_edge.specs.declared.stop.Stop.TheVariants as stop
use Rattle.ccsl_top.specs.declared.reply.Reply.{Reply}
use Rattle.ccsl_top.specs.Outcome.{Outcome, outcome}
use Rattle.ccsl_vcd.specs.declared.limits.TheConstants.{LIMITS}
use Rattle.ccsl_top.specs.Explain.{member_lines, cert_output, blocked_outcome, IsRunExplained, IsVerdictExplained, IsReadExplained, IsExplainOutcome}
use Rattle.ccsl_top.specs.Explain as explain
use Rattle.ccsl_top.specs.Changes.{Reads}
use Rattle.ccsl_top.specs.Reading.{only}
use Rattle.ccsl_top.specs.Answered.{plain_reply}
use Rattle.ccsl_top.specs.Explaining.{BlockedAnswers, IsWriteStop, RunAnswers, possible, blocked, IsRunStop, TraceAnswers, unwritten, written}
use Rattle.ccsl_top.specs.Explaining.{IsTraceStop}
use Rattle.ccsl_top.proofs.Opened.{opened-reads}

-- BEHIND A RUN: what is answered on an explanation
module _ (told : Told) (K : System) (cert : List ℕ) (steps : ℕ) (now : State) where
  module _ {core core' : List ℕ} {lines lines' : List Line} {without without' : List (List ℕ)} (core_is : core' ≡ core) (lines_are : lines' ≡ lines)
      (without_is : without' ≡ without) {explained : Explained} (is : explained ≡ Blocked core lines without) (next : State) where
    pub run-blocked : {report : List ℕ} → report ≡ explain_blocked_text steps (length core') ++ member_lines K core' without' →
        (r : Result Reply Stop) → IfOk r (λ reply. BlockedAnswers told (cert_output K cert lines') report reply now next) →
        IfOk r (λ reply. (F : List Formula) → Explains (scope_of K) F explained → RunAnswers told K cert steps F now next reply)
    run-blocked report_is (Ok reply) a = λ F x.
        let why : IsExplained (scope_of K) F core lines without = rw is at x in
        let b = rw lines_are at a in
        blocked core lines without why
        b.status (b.report_is ∙ report_is ∙ ap₂ (λ c w. explain_blocked_text steps (length c) ++ member_lines K c w) core_is without_is) b.writes
    run-blocked report_is (Err reason) a = a

    pub run-breaks : (r : Result Reply Stop) → IfErr r (λ reason. IsWriteStop told (cert_output K cert lines') now next reason) →
        IfErr r (λ reason. (F : List Formula) → Explains (scope_of K) F explained → IsRunStop told K cert F now next reason)
    run-breaks (Ok reply) a = a
    run-breaks (Err stop.Fault) a = λ F x. record {
      core = core;
      lines = lines;
      without = without;
      why = rw is at x;
      writes = rw lines_are at a;
    }
    run-breaks (Err stop.Memory) a = λ F x. a

  -- what is answered on whichever formulas are explained so is answered on these
  module _ (F : List Formula) (explained : Explained) (is : Explains (scope_of K) F explained) (next : State) where
    pub explained-answers : (r : Result Reply Stop) →
        IfOk r (λ reply. (fs : List Formula) → Explains (scope_of K) fs explained → RunAnswers told K cert steps fs now next reply) →
        IfOk r (λ reply. RunAnswers told K cert steps F now next reply)
    explained-answers (Ok reply) a = a F is
    explained-answers (Err reason) a = a

    pub explained-stops : (r : Result Reply Stop) →
        IfErr r (λ reason. (fs : List Formula) → Explains (scope_of K) fs explained → IsRunStop told K cert fs now next reason) →
        IfErr r (λ reason. IsRunStop told K cert F now next reason)
    explained-stops (Ok reply) a = a
    explained-stops (Err reason) a = a F is

  -- what is answered on some formulas is answered on those of the items
  module _ (F : List Formula) (Stand : List Step → Type 0) (same : (T : List Step) → Stand T → F ≡ item_formulas K T) (next : State) where
    pub run-answered : (r : Result Reply Stop) → IfOk r (λ reply. RunAnswers told K cert steps F now next reply) →
        IfOk r (λ reply. (T : List Step) → Stand T → RunAnswers told K cert steps (item_formulas K T) now next reply)
    run-answered (Ok reply) a = λ T t. rw (← same T t) a
    run-answered (Err reason) a = a

    pub run-stopped : (r : Result Reply Stop) → IfErr r (λ reason. IsRunStop told K cert F now next reason) →
        IfErr r (λ reason. (T : List Step) → Stand T → IsRunStop told K cert (item_formulas K T) now next reason)
    run-stopped (Ok reply) a = a
    run-stopped (Err reason) a = λ T t. rw (← same T t) a

-- BEHIND A TRACE that was opened and read
module _ (cert : List ℕ) {told : Told} {K : System} {trace : List ℕ} {s t : State} (opens : OpensIn told Trace trace s t) {u : State} where
  module _ {bound : List ℕ} {rows : List Row} (is : IsTrace told K LIMITS t u bound rows) where
    pub trace-reads : Reads (only Trace) s u
    trace-reads = opened-reads told Trace trace s t u opens is.is_read.bytes is.is_read.reads

    pub trace-explains : (o : Outcome) → IsVerdictExplained K cert rows (verdict K bound rows) o → IsTrue told.files → IsTrue told.left →
        IsExplainOutcome K cert (held s.files trace) o
    trace-explains o a f l =
        subst (λ bytes. IsExplainOutcome K cert bytes o) (sym (is.is_read.whole l) ∙ opens.bytes f l)
        (subst (λ m. IsReadExplained K cert is.is_read.bytes m o) (sym is.is_read.ends.fine) (rw (is.is_read.ends.bound_are, is.is_read.ends.rows_are) at a))

    -- it is no run
    pub trace-no-run : {step time item : ℕ} → verdict K bound rows ≡ kernel.Violated step time item → (reply : Reply) →
        plain_reply reply ≡ outcome 1 (broken_text (codes "explain: ") step time item K) → TraceAnswers told K cert trace s u reply
    trace-no-run v reply e =
        let status = ap (λ o. o.status) e in
        unwritten trace-reads (inl status) (trace-explains (plain_reply reply) (rw v e))

    -- it is a run
    module _ {steps : ℕ} (v : verdict K bound rows ≡ kernel.Run steps) (w : State) where
      run-explains : (o : Outcome) → IsRunExplained K cert steps (item_formulas K (completed_rows K rows)) o → IsTrue told.files → IsTrue told.left →
          IsExplainOutcome K cert (held s.files trace) o
      run-explains o a = trace-explains o (rw v a)

      run-answers : (reply : Reply) → RunAnswers told K cert steps (item_formulas K (completed_rows K rows)) u w reply
          → TraceAnswers told K cert trace s w reply
      run-answers reply (possible step one is same) =
          let status = ap (λ o. o.status) is in
          unwritten (subst (Reads (only Trace) s) (sym same) trace-reads) (inl status)
          (run-explains (plain_reply reply) (explain.possible step one is))
      run-answers reply (blocked core lines without why status report writes) = written (record {
        between = u;
        reads = trace-reads;
        steps = steps;
        core = core;
        lines = lines;
        without = without;
        is = run-explains (blocked_outcome K cert steps core lines without) (explain.blocked core lines without why refl);
        writes = writes;
      }) status report

      run-stops : (reason : Stop) → IsRunStop told K cert (item_formulas K (completed_rows K rows)) u w reason → IsTraceStop told K cert trace s w reason
      run-stops stop.Fault b = inr (record {
        between = u;
        reads = trace-reads;
        steps = steps;
        core = b.core;
        lines = b.lines;
        without = b.without;
        is = run-explains (blocked_outcome K cert steps b.core b.lines b.without) (explain.blocked b.core b.lines b.without b.why refl);
        writes = b.writes;
      })
      run-stops stop.Memory same = subst (Reads (only Trace) s) (sym same) trace-reads

      module _ {h : Held} (after : AreAfter K rows h) where
        pub trace-answers : (r : Result Reply Stop) →
            IfOk r (λ reply. (T : List Step) → StandsFor h T → RunAnswers told K cert steps (item_formulas K T) u w reply) →
            IfOk r (λ reply. TraceAnswers told K cert trace s w reply)
        trace-answers (Ok reply) a = run-answers reply (a (completed_rows K rows) after.stands)
        trace-answers (Err reason) a = a

        pub trace-stops : (r : Result Reply Stop) →
            IfErr r (λ reason. (T : List Step) → StandsFor h T → IsRunStop told K cert (item_formulas K T) u w reason) →
            IfErr r (λ reason. IsTraceStop told K cert trace s w reason)
        trace-stops (Ok reply) a = a
        trace-stops (Err reason) a = run-stops reason (a (completed_rows K rows) after.stands)
