-- A trace and a certificate that were opened and checked.
use Rattle.std.proofs.Common.{◌≡◌, ◌≢◌, ℕ, ◌<◌, ◌≤◌, List, [], ◌∷◌, length, Bool, true, false, ◌||◌, cond, Some, None, Result, Ok, Err, IfOk, IfErr, IsTrue}
use Rattle.std.proofs.Common.{⊎_elim, inl, inr, refl, sym, ap, ◌∙◌, subst, arith, lt-ltb, le-ltb}
use Rattle.ccsl_base.specs.declared.limits.TheConstants.{MAX_FILE_BYTES}
use Rattle.ccsl_base.specs.declared.rows.Row.{Row}
use Rattle.ccsl_edge.specs.declared.slot.Slot.{Slot}
use Rattle.ccsl_edge.specs.declared.slot.Slot.TheVariants.{Spec, Trace, Cert}
use Rattle.ccsl_edge.specs.World.{State, Told, held}
use Rattle.ccsl_edge.specs.Calls.{Fails, OpensIn, ReadsThenFails, ReadsAll}
use Rattle.ccsl_edge.specs.Calls as edge
use Rattle.ccsl_command.specs.declared.command.Command.{Command}
use Rattle.ccsl_command.specs.declared.command.Command.TheVariants as command
use Rattle.ccsl_command.specs.Opened.{Opened}
use Rattle.ccsl_kernel.specs.Syntax.{System}
use Rattle.ccsl_kernel.specs.Verdict.{verdict}
use Rattle.ccsl_kernel.specs.Verdict as kernel
use Rattle.ccsl_spec.specs.Specifications.{IsSystemOf}
use Rattle.ccsl_refute.specs.declared.line.Line.{Line}
use Rattle.ccsl_refute.specs.declared.fault.CertFault.{CertFault}
use Rattle.ccsl_refute.specs.Validity.{is_certificate, first_bad_line}
use Rattle.ccsl_refute.specs.Reading as certificates
use Rattle.ccsl_formula.specs.Formula.{Formula}
use Rattle.ccsl_formula.specs.declared.scope.Scope.{Scope}
use Rattle.ccsl_items.specs.Formulas.{item_formulas, scope_of}
use Rattle.ccsl_vcd.specs.declared.fault.VcdFault.{VcdFault}
use Rattle.ccsl_vcd.specs.Reading.{reading}
use Rattle.ccsl_vcd.specs.Rows.{recorded}
use Rattle.ccsl_bind.specs.Collected.{wanted_of}
use Rattle.ccsl_trace.specs.Traces.{clocks_of}
use Rattle.ccsl_certify.specs.declared.answer.CertVerdict.{CertVerdict}
use Rattle.ccsl_certify.specs.declared.answer.CertVerdict.TheVariants.{Yes, NotRun, BadLine}
use Rattle.ccsl_certify.specs.declared.answer.CertifyFault.{CertifyFault}
use Rattle.ccsl_certify.specs.declared.answer.CertifyFault.TheVariants as fault
use Rattle.ccsl_certify.specs.Replaying.{IsTrace}
use Rattle.ccsl_certify.specs.Certified.{Answers, IsCertified, IsUncertified}
use Rattle.ccsl_report.specs.Texts.{trace_text, cert_text, cert_too_long_text}
use Rattle.ccsl_edge.specs.declared.stop.Stop.{Stop}
use Rattle.ccsl_edge.specs.declared.stop.Stop.TheVariants as stop
use Rattle.ccsl_top.specs.declared.reply.Reply.{Reply}
use Rattle.ccsl_top.specs.Outcome.{Outcome, outcome}
use Rattle.ccsl_top.specs.Opening.{is_slot, is_output, opens}
use Rattle.ccsl_vcd.specs.declared.limits.TheConstants.{LIMITS}
use Rattle.ccsl_top.specs.Judge.{behind_fault}
use Rattle.ccsl_top.specs.Certify.{lines_outcome, rows_outcome, text_outcome, cert_outcome, certify_outcome}
use Rattle.ccsl_top.specs.Changes.{Uses, Reads}
use Rattle.ccsl_top.specs.Reading.{only, Breaks}
use Rattle.ccsl_top.specs.Answered.{code_of, IsReadStatus, AnswersTo, StopsAt}
use Rattle.ccsl_top.specs.Certifying.{HasItem, verdict_outcome, Gives, IsReplyOn, both, CertifyAnswers, BothBreak, IsBothStop}
use Rattle.ccsl_top.proofs.Slots.{is_slot-same, is_slot-differs, same-input}
use Rattle.ccsl_top.proofs.Effects.{by-test, uses-changed, uses-rises, uses-then, reads-then, reads-only, breaks-only}
use Rattle.ccsl_top.proofs.Opened.{fails-breaks}
use Rattle.ccsl_top.proofs.Verdicts.{violated-item}
use Rattle.ccsl_top.proofs.Reaching.{read-known}
use Rattle.ccsl_top.proofs.Writing.{on-output}
use Rattle.ccsl_top.proofs.Behind.{closed-none, read-answered, read-faulted, read-starved}
use Rattle.std.proofs.lemmas.Bool.{both_ways}

-- a certificate has no bad line
abbrev pub NoBadLine : Type 0
NoBadLine = (scope : Scope) (formulas : List Formula) (lines : List Line) → is_certificate scope formulas lines ≡ true
    → first_bad_line scope formulas lines ≡ None

-- WHICH OUTCOME an answer is
module _ (none-bad : NoBadLine) (K : System) (trace cert : List ℕ) where
  abbrev rows : List Row
  rows = recorded (wanted_of K) LIMITS trace

  abbrev bound : List ℕ
  bound = clocks_of (wanted_of K) LIMITS trace

  -- a trace without a fault, and a certificate that is short enough
  fine-outcome : (reading (wanted_of K) LIMITS trace).fault ≡ None → length cert ≤ MAX_FILE_BYTES
      → certify_outcome K trace cert ≡ text_outcome K trace (certificates.reading K.names cert)
  fine-outcome fine short = ap (λ fault. behind_fault K fault (cert_outcome K trace cert)) fine
      ∙ ap (λ t. cond t (outcome 4 cert_too_long_text) (text_outcome K trace (certificates.reading K.names cert))) (le-ltb MAX_FILE_BYTES (length cert) short)

  refused-outcome : (f : VcdFault) → (reading (wanted_of K) LIMITS trace).fault ≡ Some f → outcome 4 (trace_text f K) ≡ certify_outcome K trace cert
  refused-outcome f e = sym (ap (λ fault. behind_fault K fault (cert_outcome K trace cert)) e)

  long-outcome : (reading (wanted_of K) LIMITS trace).fault ≡ None → MAX_FILE_BYTES < length cert → outcome 4 cert_too_long_text ≡ certify_outcome K trace cert
  long-outcome fine long = sym (ap (λ fault. behind_fault K fault (cert_outcome K trace cert)) fine
      ∙ ap (λ t. cond t (outcome 4 cert_too_long_text) (text_outcome K trace (certificates.reading K.names cert))) (lt-ltb MAX_FILE_BYTES (length cert) long))

  module _ (fine : (reading (wanted_of K) LIMITS trace).fault ≡ None) (short : length cert ≤ MAX_FILE_BYTES) where
    unread-outcome : (f : CertFault) → certificates.reading K.names cert ≡ Err f → outcome 4 (cert_text f) ≡ certify_outcome K trace cert
    unread-outcome f e = sym (fine-outcome fine short ∙ ap (text_outcome K trace) e)

    pub verdict-outcome : (lines : List Line) → certificates.reading K.names cert ≡ Ok lines → (v : CertVerdict) → Answers K bound rows lines v →
        verdict_outcome K v ≡ certify_outcome K trace cert
    verdict-outcome lines reads v is = of-answer v is ∙ sym (fine-outcome fine short ∙ ap (text_outcome K trace) reads)
      where
        of-answer : (v : CertVerdict) → Answers K bound rows lines v → verdict_outcome K v ≡ rows_outcome K rows lines (verdict K bound rows)
        of-answer (Yes steps) a = sym (ap (rows_outcome K rows lines) a.0
            ∙ ap (lines_outcome steps) (none-bad (scope_of K) (item_formulas K (kernel.completed_rows K rows)) lines a.1))
        of-answer (NotRun v) a = sym (ap (rows_outcome K rows lines) a)
        of-answer (BadLine j) a = sym (ap (rows_outcome K rows lines) a.0.1 ∙ ap (lines_outcome a.0.0) a.1)

module _ (a b : Slot → Bool) (within : (slot : Slot) → a slot ≡ true → b slot ≡ true) (x y : State) where
  uses-within : Uses a x y → Uses b x y
  uses-within u = record {
    files = u.files;
    here = λ slot _. uses-changed a x y u slot;
    rises = λ slot _. uses-rises a x y u slot;
    others = λ slot no. u.others slot (by-test (a slot) (λ yes. absurd (both_ways (b slot) no (within slot yes))) (λ n. n));
  }

  reads-within : Reads a x y → Reads b x y
  reads-within r = record { uses = uses-within r.uses; counts = r.counts }

one-of : (slot other : Slot) → both slot ≡ true → only slot other ≡ true → both other ≡ true
one-of slot other is e = subst (λ x. both x ≡ true) (is_slot-same slot other e) is

twice : (b : Bool) → (b || b) ≡ true → b ≡ true
twice true e = refl
twice false e = e

both-then : (x y z : State) → Reads both x y → Reads both y z → Reads both x z
both-then x y z p q = reads-within (λ slot. both slot || both slot) both (λ slot e. twice (both slot) e) x z (reads-then both both x y z p q)

both-breaks : (x y z : State) → Reads both x y → BothBreak y z → BothBreak x z
both-breaks x y z p q = record {
  uses = uses-within (λ slot. both slot || both slot) both (λ slot e. twice (both slot) e) x z (uses-then both both x y z p.uses q.uses);
  rose = ⊎_elim (λ r. inl (rw (sym (p.counts Trace)) r)) (λ r. inr (rw (sym (p.counts Cert)) r)) q.rose;
}

module _ (slot : Slot) (is : both slot ≡ true) (x y : State) where
  in-both : Reads (only slot) x y → Reads both x y
  in-both r = reads-within (only slot) both (λ other e. one-of slot other is e) x y r

  break-uses : Breaks slot x y → Uses both x y
  break-uses b = uses-within (only slot) both (λ other e. one-of slot other is e) x y b.uses

module _ (told : Told) (x y : State) where
  opens-both : (slot : Slot) → both slot ≡ true → (name : List ℕ) → OpensIn told slot name x y → Reads both x y
  opens-both slot is name o = in-both slot is x y (reads-only slot x y o.only o.here)

  takes-both : (slot : Slot) → both slot ≡ true → (bytes : List ℕ) → edge.Reads told slot bytes x y → Reads both x y
  takes-both slot is bytes r = in-both slot is x y (reads-only slot x y r.only r.here)

  trace-breaks : Breaks Trace x y → BothBreak x y
  trace-breaks b = record { uses = break-uses Trace refl x y b; rose = inl b.rose }

  cert-breaks : Breaks Cert x y → BothBreak x y
  cert-breaks b = record { uses = break-uses Cert refl x y b; rose = inr b.rose }

  part-breaks : (slot : Slot) (bytes : List ℕ) → ReadsThenFails told slot bytes x y → Breaks slot x y
  part-breaks slot bytes r = breaks-only slot x y r.only r.here r.rose

cert-apart : Cert ≢ Trace
cert-apart = is_slot-differs Trace Cert refl

trace-apart : Trace ≢ Cert
trace-apart = is_slot-differs Cert Trace refl

-- BOTH FILES were opened, and the world goes on
module _ (none-bad : NoBadLine) (told : Told) (K : System) (trace cert : List ℕ) (s t : State) where
  pub trace-unopened : Fails Trace s t → BothBreak s t
  trace-unopened f = trace-breaks told s t (fails-breaks Trace s t f)

  module _ (opens_trace : OpensIn told Trace trace s t) (u : State) where
    pub cert-unopened : Fails Cert t u → BothBreak s u
    cert-unopened f = both-breaks s t u (opens-both told s t Trace refl trace opens_trace) (cert-breaks told t u (fails-breaks Cert t u f))

    module _ (opens_cert : OpensIn told Cert cert t u) (w : State) where
      opened-both : Reads both s u
      opened-both = both-then s t u (opens-both told s t Trace refl trace opens_trace) (opens-both told t u Cert refl cert opens_cert)

      trace-left : IsTrue told.files → IsTrue told.left → (u.slot_of Trace).left ≡ held s.files trace
      trace-left f l = ap (λ x. x.left) (opens_cert.only.others Trace trace-apart) ∙ opens_trace.bytes f l

      cert-left : IsTrue told.files → IsTrue told.left → (u.slot_of Cert).left ≡ held s.files cert
      cert-left f l = opens_cert.bytes f l ∙ ap (λ fs. held fs cert) opens_trace.only.files

      -- the trace was read whole
      module _ (m : State) (bound : List ℕ) (rows : List Row) (is : IsTrace told K LIMITS u m bound rows) where
        trace-read : Reads both s m
        trace-read = both-then s u m opened-both (takes-both told u m Trace refl is.is_read.bytes is.is_read.reads)

        trace-bytes : IsTrue told.files → IsTrue told.left → held s.files trace ≡ is.is_read.bytes
        trace-bytes f l = sym (trace-left f l) ∙ is.is_read.whole l

        trace-fine : IsTrue told.files → IsTrue told.left → (reading (wanted_of K) LIMITS (held s.files trace)).fault ≡ None
        trace-fine f l = ap (λ bytes. (reading (wanted_of K) LIMITS bytes).fault) (trace-bytes f l) ∙ is.is_read.ends.fine

        cert-there : IsTrue told.files → IsTrue told.left → (m.slot_of Cert).left ≡ held s.files cert
        cert-there f l = ap (λ x. x.left) (is.is_read.reads.only.others Cert cert-apart) ∙ cert-left f l

        -- and the certificate
        module _ (text : List ℕ) (all : ReadsAll told Cert LIMITS.bytes text m w) where
          both-read : Reads both s w
          both-read = both-then s m w trace-read (takes-both told m w Cert refl text all.reads)

          cert-bytes : IsTrue told.files → IsTrue told.left → held s.files cert ≡ text
          cert-bytes f l = sym (cert-there f l) ∙ all.whole l

          cert-short : IsTrue told.files → IsTrue told.left → length (held s.files cert) ≤ MAX_FILE_BYTES
          cert-short f l = rw (cert-bytes f l) all.within

          certified-outcome : (lines : List Line) → certificates.reading K.names text ≡ Ok lines → (v : CertVerdict) → Answers K bound rows lines v →
              IsTrue told.files → IsTrue told.left → verdict_outcome K v ≡ certify_outcome K (held s.files trace) (held s.files cert)
          certified-outcome lines reads v a f l =
              verdict-outcome none-bad K (held s.files trace) (held s.files cert) (trace-fine f l) (cert-short f l) lines
              (ap (certificates.reading K.names) (cert-bytes f l) ∙ reads) v
              (rw (trace-bytes f l) (rw (is.is_read.ends.bound_are, is.is_read.ends.rows_are) at a))

          uncertified-outcome : (fault : CertFault) → certificates.reading K.names text ≡ Err fault →
              IsTrue told.files → IsTrue told.left → outcome 4 (cert_text fault) ≡ certify_outcome K (held s.files trace) (held s.files cert)
          uncertified-outcome fault reads f l =
              unread-outcome none-bad K (held s.files trace) (held s.files cert) (trace-fine f l) (cert-short f l) fault
              (ap (certificates.reading K.names) (cert-bytes f l) ∙ reads)

      -- what is answered, from its outcome
      module _ (found : Result Reply Stop) where
        gives : (o : Outcome) → IsReadStatus o.status → Reads both s w →
            (IsTrue told.files → IsTrue told.left → o ≡ certify_outcome K (held s.files trace) (held s.files cert)) → Gives o found →
            IfOk found (λ reply. CertifyAnswers told K trace cert reply s w) × IfErr found (λ reason. IsBothStop reason s w)
        gives o status reads is g = given found g
          where
            given : (found : Result Reply Stop) → Gives o found →
                IfOk found (λ reply. CertifyAnswers told K trace cert reply s w) × IfErr found (λ reason. IsBothStop reason s w)
            given (Ok reply) g = (
              record {
                reads = reads;
                status = subst IsReadStatus (sym (ap (λ x. x.status) g.0)) status;
                is = λ f l. g.0 ∙ is f l;
              },
              g.1,
            )
            given (Err reason) g = (g.0, rw g.1 reads)

        stops : (reason : Stop) → found ≡ Err reason → IsBothStop reason s w →
            IfOk found (λ reply. CertifyAnswers told K trace cert reply s w) × IfErr found (λ reason. IsBothStop reason s w)
        stops reason e is = rw e (record {}, is)

        verdict-status : (v : CertVerdict) → IsReadStatus (verdict_outcome K v).status
        verdict-status (Yes steps) = (λ e. omega (arith, e), λ e. omega (arith, e), λ e. omega (arith, e))
        verdict-status (NotRun v) = (λ e. omega (arith, e), λ e. omega (arith, e), λ e. omega (arith, e))
        verdict-status (BadLine j) = (λ e. omega (arith, e), λ e. omega (arith, e), λ e. omega (arith, e))

        four : IsReadStatus 4
        four = (λ e. omega (arith, e), λ e. omega (arith, e), λ e. omega (arith, e))

        on-fault : (reason : CertifyFault) → IsUncertified told K LIMITS u w reason → IsReplyOn K (Err reason) found →
            IfOk found (λ reply. CertifyAnswers told K trace cert reply s w) × IfErr found (λ reason. IsBothStop reason s w)
        on-fault fault.Fault is e = stops stop.Fault e (⊎_elim
            (λ f. both-breaks s u w opened-both (trace-breaks told u w (part-breaks told u w Trace f.bytes f.reads)))
            (λ f. both-breaks s f.between w (trace-read f.between f.bound f.rows f.trace)
            (cert-breaks told f.between w (part-breaks told f.between w Cert f.reads.bytes f.reads.fails)))
            is)
        on-fault (fault.Refused f) is g = gives (outcome 4 (trace_text f K)) four
            (both-then s u w opened-both (takes-both told u w Trace refl is.bytes is.reads))
            (λ a l. refused-outcome none-bad K (held s.files trace) (held s.files cert) f
            (ap (λ bytes. (reading (wanted_of K) LIMITS bytes).fault) (sym (trace-left a l)) ∙ is.whole l)) g
        on-fault (fault.Cert f) is g = gives (outcome 4 (cert_text f)) four
            (both-read is.read.between is.bound is.rows is.read.trace is.text is.read.certificate)
            (uncertified-outcome is.read.between is.bound is.rows is.read.trace is.text is.read.certificate f is.reads_as) g
        on-fault fault.CertTooLong is g = gives (outcome 4 cert_too_long_text) four
            (both-then s is.between w (trace-read is.between is.bound is.rows is.trace) (takes-both told is.between w Cert refl is.reads.bytes is.reads.reads))
            (λ f l. long-outcome none-bad K (held s.files trace) (held s.files cert) (trace-fine is.between is.bound is.rows is.trace f l)
            (subst (λ bytes. MAX_FILE_BYTES < length bytes) (cert-there is.between is.bound is.rows is.trace f l) (is.reads.more l))) g
        on-fault fault.Memory is e = stops stop.Memory e (⊎_elim
            (λ n. both-then s u w opened-both (takes-both told u w Trace refl n.bytes n.reads))
            (λ n. both-then s n.between w (trace-read n.between n.bound n.rows n.trace) (takes-both told n.between w Cert refl n.reads.bytes n.reads.reads))
            is)

        pub certify-replies : (r : Result CertVerdict CertifyFault) → IfOk r (λ v. IsCertified told K LIMITS u w v)
            → IfErr r (λ f. IsUncertified told K LIMITS u w f) →
            IsReplyOn K r found → IfOk found (λ reply. CertifyAnswers told K trace cert reply s w) × IfErr found (λ reason. IsBothStop reason s w)
        certify-replies (Ok v) is _ g = gives (verdict_outcome K v) (verdict-status v)
            (both-read is.read.between is.bound is.rows is.read.trace is.text is.read.certificate)
            (certified-outcome is.read.between is.bound is.rows is.read.trace is.text is.read.certificate is.lines is.reads_as v is.answers) g
        certify-replies (Err f) _ is g = on-fault f is g

-- the item of an answer is one of the system's
module _ (told : Told) (K : System) (old new : State) where
  pub certified-item : (r : Result CertVerdict CertifyFault) → IfOk r (λ v. IsCertified told K LIMITS old new v) → IfOk r (λ v. HasItem K v)
  certified-item (Ok (Yes steps)) is = record {}
  certified-item (Ok (NotRun v)) is = violated-item K is.bound is.rows v.step v.time v.item is.answers
  certified-item (Ok (BadLine j)) is = record {}
  certified-item (Err f) is = is

-- THE WHOLE COMMAND behind an accepted specification
module _ (told : Told) (spec trace cert : List ℕ) (s t : State) (reads : Reads (only Spec) s t)
    (K : System) (system : IsTrue told.files → IsTrue told.left → IsSystemOf (held s.files spec) K) (u : State) where
  abbrev c : Command
  c = command.Certify spec trace cert

  abbrev behind : List Opened
  behind = record { slot = Trace; name = trace } ∷ record { slot = Cert; name = cert } ∷ []

  abbrev IsAnswer : (List ℕ → List ℕ) → List ℕ → System → Outcome → Type 0
  IsAnswer content input K o = o ≡ certify_outcome K (content trace) (content cert)

  within : (slot : Slot) → both slot ≡ true → opens behind slot ≡ true
  within slot e = by-either (is_slot Trace slot) (is_slot Cert slot) e
    where
      by-either : (a b : Bool) → (a || b) ≡ true → (a || (b || false)) ≡ true
      by-either true b e = refl
      by-either false true e = refl
      by-either false false e = e

  inputs : (slot : Slot) → both slot ≡ true → is_output slot ≡ false
  inputs slot e = by-either (is_slot Trace slot) refl e
    where
      by-either : (a : Bool) → is_slot Trace slot ≡ a → (a || is_slot Cert slot) ≡ true → is_output slot ≡ false
      by-either true is e = same-input Trace refl slot is
      by-either false is e = same-input Cert refl slot e

  pub certify-answers : (result : Result Reply Stop) → IfOk result (λ reply. CertifyAnswers told K trace cert reply t u) →
      IfOk result (λ reply. AnswersTo told (command.Certify spec trace cert) reply s u)
  certify-answers (Ok reply) a = λ words means.
      read-answered told words c means spec behind refl IsAnswer (λ content input o x. x) s t reads K system both within inputs u reply a.reads a.status.1
      (read-known reply.status a.status)
      (closed-none told words c means spec behind refl IsAnswer (λ content input o x. x)
      (λ slot out. on-output (λ x. opens behind x ≡ false) refl refl slot out) (code_of reply.status) u)
      (λ f l. a.is f l ∙ ap (λ fs. certify_outcome K (held fs trace) (held fs cert)) reads.uses.files)
  certify-answers (Err reason) a = a

  both-stopped : (reason : Stop) → IsBothStop reason t u → StopsAt told (command.Certify spec trace cert) reason s u
  both-stopped stop.Fault b = λ words means. ⊎_elim
      (λ rose. read-faulted told words c means spec behind refl IsAnswer (λ content input o x. x) s t reads K system both within inputs u b.uses Trace refl
      rose)
      (λ rose. read-faulted told words c means spec behind refl IsAnswer (λ content input o x. x) s t reads K system both within inputs u b.uses Cert refl rose)
      b.rose
  both-stopped stop.Memory b = λ words means.
      read-starved told words c means spec behind refl IsAnswer (λ content input o x. x) s t reads K system both within inputs u b
      (λ f l name file n e. let clash : c ≡ command.Judge name file n = e in absurd (cc))

  pub certify-stops : (result : Result Reply Stop) → IfErr result (λ reason. IsBothStop reason t u) →
      IfErr result (λ reason. StopsAt told (command.Certify spec trace cert) reason s u)
  certify-stops (Ok reply) is = is
  certify-stops (Err reason) is = both-stopped reason is
