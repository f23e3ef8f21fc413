-- The command `explain`, as an answer to words that mean it.
use Rattle.std.proofs.Common.{◌≡◌, ◌≢◌, ℕ, ◌≤◌, List, [], ◌∷◌, Bool, true, false, ◌||◌, Result, Ok, Err, IfOk, IfErr, IsTrue, ⊎_elim, refl, sym, ap, ◌∙◌}
use Rattle.std.proofs.Common.{subst, arith, bytes_eq}
use Rattle.ccsl_edge.specs.declared.slot.Slot.{Slot}
use Rattle.ccsl_edge.specs.declared.slot.Slot.TheVariants.{Spec, Trace, TraceOut, CertOut}
use Rattle.ccsl_edge.specs.World.{State, Told, Rose, held, file_at}
use Rattle.ccsl_command.specs.declared.command.Command.{Command}
use Rattle.ccsl_command.specs.declared.command.Command.TheVariants as command
use Rattle.ccsl_command.specs.Meaning.{meaning}
use Rattle.ccsl_command.specs.Opened.{Opened, files_meant, files_opened}
use Rattle.ccsl_kernel.specs.Syntax.{System}
use Rattle.ccsl_spec.specs.Specifications.{IsSystemOf}
use Rattle.ccsl_edge.specs.declared.stop.Stop.{Stop}
use Rattle.ccsl_edge.specs.declared.stop.Stop.TheVariants as stop
use Rattle.ccsl_top.specs.declared.reply.Reply.{Reply}
use Rattle.ccsl_top.specs.Outcome.{Output, Outcome}
use Rattle.ccsl_top.specs.Opening.{opens, writes, is_slot, is_output}
use Rattle.ccsl_top.specs.Program.{accepted}
use Rattle.ccsl_top.specs.Explain.{cert_output, blocked_outcome, IsExplainOutcome}
use Rattle.ccsl_top.specs.Changes.{Reads, Stays}
use Rattle.ccsl_top.specs.Reading.{only}
use Rattle.ccsl_top.specs.Headline.{IsTold, input_of, IsDefinedOutput, explained, IsFrontOn, by_file, untouched}
use Rattle.ccsl_top.specs.Answered.{code_of, plain_reply, Leaves, Answered, Faulted, IsUnanswered, AnswersTo, StopsAt}
use Rattle.ccsl_top.specs.Explaining.{WritesSome, WritesWhole, WritesBreak, IsBlocked, TraceAnswers, unwritten, written, IsTraceStop}
use Rattle.ccsl_top.proofs.Slots.{is_slot-same, is_slot-self, is_slot-differs, same-input}
use Rattle.ccsl_top.proofs.Effects.{by-test, uses-changed, uses-rises, reads-then}
use Rattle.ccsl_top.proofs.Outputs.{whole-moves, front-moves}
use Rattle.ccsl_top.proofs.Reaching.{opened-used, reach-all}
use Rattle.ccsl_top.proofs.Behind.{is-outcome, behind-told, among-answers, read-answered, read-faulted, read-starved}
use Rattle.ccsl_top.proofs.Writing.{on-output, trace-apart}
use Rattle.ccsl_top.proofs.Simulated.{name-apart}
use Rattle.std.proofs.lemmas.Bool.{or_parts, both_ways}

module _ (told : Told) (words : List (List ℕ)) (spec trace cert : List ℕ) (means : meaning words ≡ Ok (command.Explain spec trace cert))
    (s t u : State) (reads : Reads (only Spec) s t) (K : System) (system : IsTrue told.files → IsTrue told.left → IsSystemOf (held s.files spec) K) where
  abbrev c : Command
  c = command.Explain spec trace cert

  abbrev behind : List Opened
  behind = record { slot = Trace; name = trace } ∷ record { slot = CertOut; name = cert } ∷ []

  abbrev opened : List Opened
  opened = record { slot = Spec; name = spec } ∷ behind

  abbrev IsAnswer : (List ℕ → List ℕ) → List ℕ → System → Outcome → Type 0
  IsAnswer content input K o = IsExplainOutcome K cert (content trace) o

  words-open : files_opened words ≡ opened
  words-open = ap files_meant means

  trace-within : (slot : Slot) → only Trace slot ≡ true → opens behind slot ≡ true
  trace-within slot e = first-opens (is_slot Trace slot) (is_slot CertOut slot || false) e
    where
      first-opens : (a b : Bool) → a ≡ true → (a || b) ≡ true
      first-opens true b e = refl
      first-opens false b e = absurd (both_ways false refl e)

  no-trial : (name file : List ℕ) (workers : ℕ) → c ≡ command.Judge name file workers → ⊥
  no-trial name file workers e = absurd (cc)

  -- the answer on the trace, as one on the files before the specification was read
  at-start : (o : Outcome) → (IsTrue told.files → IsTrue told.left → IsExplainOutcome K cert (held t.files trace) o) →
      IsTrue told.files → IsTrue told.left → IsExplainOutcome K cert (held s.files trace) o
  at-start o is f l = subst (λ fs. IsExplainOutcome K cert (held fs trace) o) reads.uses.files (is f l)

  as-told : {P : Type 0} → (IsTrue told.files → IsTrue told.left → P) → IsTold told words → P
  as-told = behind-told told words c means spec behind refl IsAnswer (λ content input p x. x)

  -- THE CERTIFICATE WAS OPENED
  module _ (Writes : Output → State → State → Type 0) (all : IsBlocked told K cert trace t u Writes) where
    abbrev file : Output
    file = cert_output K cert all.lines

    abbrev mid : State
    mid = all.between

    abbrev o : Outcome
    o = blocked_outcome K cert all.steps all.core all.lines all.without

    abbrev used : Slot → Bool
    used slot = (only Spec slot || only Trace slot) || only CertOut slot

    both : Reads (λ slot. only Spec slot || only Trace slot) s mid
    both = reads-then (only Spec) (only Trace) s t mid reads all.reads

    used-opened : (slot : Slot) → used slot ≡ true → opens (files_opened words) slot ≡ true
    used-opened slot e = ap (λ fs. opens fs slot) words-open ∙ by-any (is_slot Spec slot) (is_slot Trace slot) (is_slot CertOut slot) e
      where
        by-any : (a b d : Bool) → ((a || b) || d) ≡ true → (a || (b || (d || false))) ≡ true
        by-any true b d e = refl
        by-any false true d e = refl
        by-any false false true e = refl
        by-any false false false e = e

    file-same : (name : List ℕ) → file_at s.files name ≡ file_at mid.files name
    file-same name = ap (λ fs. file_at fs name) (sym both.uses.files)

    defined-output : IsTrue told.files → IsTrue told.left → (x : Output) → x ≡ file → IsDefinedOutput words s.files x
    defined-output f l x is = explained spec trace cert means K (system f l) o (at-start o all.is f l) (ap (λ y. y ∷ []) (sym is))

    module _ (some : WritesSome told (cert_output K cert all.lines) all.between u) where
      cert-unwritten : (slot : Slot) → is_output slot ≡ false → slot ≢ CertOut
      cert-unwritten slot out same = absurd (both_ways (is_output CertOut) (ap is_output (sym same) ∙ out) refl)

      stays : Stays told (files_opened words) used s u
      stays = record {
        unwritten = λ _ e. absurd (both_ways (used CertOut) e refl);
        files = λ f w name e.
            let n : writes opened name ≡ false = sym (ap (λ fs. writes fs name) words-open) ∙ e in
            some.files f w name (name-apart cert name (or_parts (bytes_eq cert name) false n).0) ∙ sym (file-same name);
        inputs = λ slot out. subst (λ x. x ≡ record (s.slot_of slot) { left = x.left; faults = x.faults }) (sym (some.others slot (cert-unwritten slot out)))
            (uses-changed (λ x. only Spec x || only Trace x) s mid both.uses slot);
        others = λ slot e. some.others slot (is_slot-differs CertOut slot (or_parts (only Spec slot || only Trace slot) (only CertOut slot) e).1)
            ∙ both.uses.others slot (or_parts (only Spec slot || only Trace slot) (only CertOut slot) e).0;
        rises = λ slot. let a = uses-rises (λ x. only Spec x || only Trace x) s mid both.uses slot in let b = some-rises slot in omega (arith, a, b);
      }
        where
          some-rises : (slot : Slot) → (mid.slot_of slot).faults ≤ (u.slot_of slot).faults
          some-rises slot = by-test (is_slot CertOut slot)
              (λ yes. subst (λ x. (mid.slot_of x).faults ≤ (u.slot_of x).faults) (is_slot-same CertOut slot yes) some.rises)
              (λ no. let e = ap (λ x. x.faults) (some.others slot (is_slot-differs CertOut slot no)) in omega (arith, e))

      leaves : Leaves told words used s u
      leaves = record {
        opened = used-opened;
        stays = stays;
        whole = λ tells w name. as-told (λ f l.
            let P : Output → Type 0 = λ x. x ≡ file in
            let Q : Output → Type 0 = IsDefinedOutput words s.files in
            whole-moves P Q (defined-output f l) mid s u u name (file-same name) refl (some.whole f w name)) tells;
        fronts = λ tells w slot out. as-told (λ f l. on-output (IsFrontOn (IsDefinedOutput words s.files) s u)
            (untouched (ap (λ x. x.written) (some.others TraceOut trace-apart ∙ both.uses.others TraceOut refl)))
            (let P : Output → Type 0 = λ x. x ≡ file in
            let Q : Output → Type 0 = IsDefinedOutput words s.files in
            front-moves P Q (defined-output f l) mid s u u CertOut (ap (λ x. x.written) (sym (both.uses.others CertOut refl))) refl (some.front w))
            slot out) tells;
      }

      some-counts : (u.slot_of CertOut).faults ≡ (mid.slot_of CertOut).faults → (slot : Slot) → (u.slot_of slot).faults ≡ (s.slot_of slot).faults
      some-counts e slot = by-test (is_slot CertOut slot)
          (λ yes. subst (λ x. (u.slot_of x).faults ≡ (mid.slot_of x).faults) (is_slot-same CertOut slot yes) e)
          (λ no. ap (λ x. x.faults) (some.others slot (is_slot-differs CertOut slot no)))
          ∙ both.counts slot

  certificate-closed : (all : IsBlocked told K cert trace t u (WritesWhole told)) (slot : Slot) → is_output slot ≡ true → opens (files_opened words) slot ≡ true
      → (u.slot_of slot).is_open ≡ false
  certificate-closed all slot out = on-output (λ x. opens (files_opened words) x ≡ true → (u.slot_of x).is_open ≡ false)
      (λ e. absurd (both_ways (opens opened TraceOut) refl (sym (ap (λ fs. opens fs TraceOut) words-open) ∙ e)))
      (λ _. all.writes.closed) slot out

  -- the certificate was written
  written-answered : (reply : Reply) (all : IsBlocked told K cert trace t u (WritesWhole told)) → code_of reply.status ≡ 0 →
      reply.line.items ≡ (blocked_outcome K cert all.steps all.core all.lines all.without).report → Answered told words reply s u
  written-answered reply all status line =
      let W : Output → State → State → Type 0 = WritesWhole told in record {
        used = used W all;
        leaves = leaves W all all.writes.some;
        counts = some-counts W all all.writes.some all.writes.counts;
        known = among-answers told words c means spec behind refl IsAnswer (λ content input p x. x) (code_of reply.status) (0, omega arith, sym status);
        within = λ slot e. reach-all words slot (code_of reply.status) (λ n. omega (arith, n, status)) (λ n. omega (arith, n, status))
            (λ n. omega (arith, n, status))
            (opened-used words slot (used-opened W all slot e));
        closed = λ _ slot out opens_it. certificate-closed all slot out opens_it;
        stands = as-told (λ f l. record {
          outcome = o W all;
          status_is = status;
          report_is = line;
          defined = record {
            is = is-outcome told words c means spec behind refl IsAnswer (λ content input p x. x) (held s.files) (input_of s) (o W all)
                (accepted K (system f l) (at-start (o W all) all.is f l));
            files = λ w. (all.writes.holds f w, record {});
          };
        });
      }

  -- a call on it failed
  written-faulted : IsBlocked told K cert trace t u (WritesBreak told) → Faulted told words s u
  written-faulted all =
      let W : Output → State → State → Type 0 = WritesBreak told in record {
        used = used W all;
        leaves = leaves W all all.writes.some;
        cause = by_file spec behind words-open (λ f l. (K, system f l)) CertOut refl
            (subst (λ n. Rose n (u.slot_of CertOut).faults) ((both W all).counts CertOut) all.writes.rose);
      }

  pub explain-answered : (reply : Reply) → TraceAnswers told K cert trace t u reply → Answered told words reply s u
  explain-answered reply (unwritten after status is) =
      read-answered told words c means spec behind refl IsAnswer (λ content input p x. x) s t reads K system (only Trace) trace-within (same-input Trace refl) u
      reply after
      (⊎_elim (λ (n : code_of reply.status ≡ 1). λ e. omega (arith, n, e)) (λ (n : code_of reply.status ≡ 4). λ e. omega (arith, n, e)) status)
      (⊎_elim (λ (n : code_of reply.status ≡ 1). (1, omega arith, sym n)) (λ (n : code_of reply.status ≡ 4). (3, omega arith, sym n)) status)
      (λ done slot out opens_it. absurd (⊎_elim
      (λ (n : code_of reply.status ≡ 1). ⊎_elim (λ (e : code_of reply.status ≡ 0). omega (arith, n, e)) (λ (e : code_of reply.status ≡ 8). omega (arith, n, e))
      done)
      (λ (n : code_of reply.status ≡ 4). ⊎_elim (λ (e : code_of reply.status ≡ 0). omega (arith, n, e)) (λ (e : code_of reply.status ≡ 8). omega (arith, n, e))
      done)
      status))
      (at-start (plain_reply reply) is)
  explain-answered reply (written all status line) = written-answered reply all status line

  pub explain-stopped : (reason : Stop) → IsTraceStop told K cert trace t u reason → IsUnanswered reason told words s u
  explain-stopped stop.Fault b = ⊎_elim
      (λ f. read-faulted told words c means spec behind refl IsAnswer (λ content input p x. x) s t reads K system (only Trace) trace-within
      (same-input Trace refl) u f.uses Trace (is_slot-self Trace) f.rose)
      written-faulted b
  explain-stopped stop.Memory b =
      read-starved told words c means spec behind refl IsAnswer (λ content input p x. x) s t reads K system (only Trace) trace-within (same-input Trace refl) u
      b
      (λ f l name file n e. absurd (no-trial name file n e))

-- whichever words mean the command
module _ (told : Told) (spec trace cert : List ℕ) (s t : State) (reads : Reads (only Spec) s t)
    (K : System) (system : IsTrue told.files → IsTrue told.left → IsSystemOf (held s.files spec) K) (u : State) where
  pub explain-answers : (result : Result Reply Stop) → IfOk result (λ reply. TraceAnswers told K cert trace t u reply) →
      IfOk result (λ reply. AnswersTo told (command.Explain spec trace cert) reply s u)
  explain-answers (Ok reply) a = λ words means. explain-answered told words spec trace cert means s t u reads K system reply a
  explain-answers (Err reason) a = a

  pub explain-stops : (result : Result Reply Stop) → IfErr result (λ reason. IsTraceStop told K cert trace t u reason) →
      IfErr result (λ reason. StopsAt told (command.Explain spec trace cert) reason s u)
  explain-stops (Ok reply) a = a
  explain-stops (Err reason) a = λ words means. explain-stopped told words spec trace cert means s t u reads K system reason a
