-- The command `simulate`, as an answer to words that mean it.
use Rattle.std.proofs.Common.{◌≡◌, ◌≢◌, ℕ, ◌<◌, List, [], ◌∷◌, length, Bool, true, false, ◌||◌, nat_lt, cond, Contains, Result, Ok, Err, IfOk, IfErr, IsTrue}
use Rattle.std.proofs.Common.{◌⊎◌, ⊎_elim, inl, inr, refl, sym, ap, ◌∙◌, subst, arith, lt-ltb, le-ltb, bytes_eq}
use Rattle.std.proofs.lemmas.Slice.Eq.{bytes_eq-Decides}
use Rattle.ccsl_edge.specs.declared.slot.Slot.{Slot}
use Rattle.ccsl_edge.specs.declared.slot.Slot.TheVariants.{Spec, TraceOut, CertOut}
use Rattle.ccsl_edge.specs.World.{State, Told, Rose, held, file_at}
use Rattle.ccsl_command.specs.declared.command.Command.{Command}
use Rattle.ccsl_command.specs.declared.command.Command.TheVariants as command
use Rattle.ccsl_command.specs.declared.table.PolicyName.{PolicyName}
use Rattle.ccsl_command.specs.declared.usage.Usage.{Usage}
use Rattle.ccsl_command.specs.Meaning.{meaning}
use Rattle.ccsl_command.specs.Opened.{Opened, files_meant, files_opened}
use Rattle.ccsl_kernel.specs.Syntax.{System}
use Rattle.ccsl_spec.specs.Specifications.{IsSystemOf}
use Rattle.ccsl_policy.specs.declared.policies.Policy.{Policy}
use Rattle.ccsl_simulate.specs.declared.answer.Done.{Done}
use Rattle.ccsl_simulate.specs.declared.answer.Done.TheVariants.{Full, Deadlock}
use Rattle.ccsl_report.specs.Texts.{simulated_text, deadlocked_text}
use Rattle.ccsl_edge.specs.declared.stop.Stop.{Stop}
use Rattle.ccsl_edge.specs.declared.stop.Stop.TheVariants as stop
use Rattle.ccsl_top.specs.declared.reply.Reply.{Reply}
use Rattle.ccsl_top.specs.Outcome.{Output, Outcome}
use Rattle.ccsl_top.specs.Opening.{opens, writes, is_slot, is_output}
use Rattle.ccsl_top.specs.Program.{accepted}
use Rattle.ccsl_top.specs.Simulate.{named_policy, run, IsSimulated, IsOutput, simulate_outcome}
use Rattle.ccsl_top.specs.Effects.{RoseAt}
use Rattle.ccsl_top.specs.Changes.{Reads, Stays}
use Rattle.ccsl_top.specs.Reading.{only}
use Rattle.ccsl_top.specs.Statuses.{answers_of}
use Rattle.ccsl_top.specs.Headline.{IsTold, input_of, FaultCause, IsDefinedOutput, simulated, by_file}
use Rattle.ccsl_top.specs.Answered.{code_of, Leaves, Stands, Answered, Faulted, Starved, IsUnanswered, AnswersTo, StopsAt}
use Rattle.ccsl_top.specs.Simulating.{IsDoneReply, WritesSome, WritesBoth, WriteBreaks, WriteStarves, IsWriteStop}
use Rattle.ccsl_top.proofs.Effects.{uses-changed, uses-rises}
use Rattle.ccsl_top.proofs.Outputs.{whole-moves, front-moves}
use Rattle.ccsl_top.proofs.Reaching.{opened-used, reach-all}
use Rattle.ccsl_top.proofs.Behind.{is-outcome, behind-told, among-answers}
use Rattle.ccsl_top.proofs.Names.{names-differ}
use Rattle.ccsl_top.proofs.Writing.{on-output}
use Rattle.std.proofs.lemmas.Bool.{or_parts, both_ways}

-- two names that differ from one
apart-first : (a b : Bool) → (a || (b || false)) ≡ false → a ≡ false
apart-first true b e = absurd (both_ways true e refl)
apart-first false b e = refl

apart-second : (a b : Bool) → (a || (b || false)) ≡ false → b ≡ false
apart-second true b e = absurd (both_ways true e refl)
apart-second false true e = absurd (both_ways true e refl)
apart-second false false e = refl

pub name-apart : (a b : List ℕ) → bytes_eq a b ≡ false → b ≢ a
name-apart a b e same = absurd (both_ways (bytes_eq a b) e ((bytes_eq-Decides a b).1 (sym same)))

-- the outcome of a run of so many steps, by how it ended
abbrev code : Bool → ℕ
code t = cond t 8 0

module _ (steps count : ℕ) where
  early-code : count < steps → code (nat_lt count steps) ≡ code true
  early-code l = ap code (lt-ltb count steps l)

  full-code : count ≡ steps → code (nat_lt count steps) ≡ code false
  full-code e = ap code (le-ltb count steps (omega (arith, e)))

  module _ (early whole : List ℕ) where
    early-report : count < steps → cond (nat_lt count steps) early whole ≡ early
    early-report l = ap (λ t. cond t early whole) (lt-ltb count steps l)

    full-report : count ≡ steps → cond (nat_lt count steps) early whole ≡ whole
    full-report e = ap (λ t. cond t early whole) (le-ltb count steps (omega (arith, e)))

module _ (told : Told) (words : List (List ℕ)) (spec : List ℕ) (policy : PolicyName) (seed steps : ℕ) (trace cert : List ℕ)
    (means : meaning words ≡ Ok (command.Simulate spec policy seed steps trace cert))
    (s t u : State) (reads : Reads (only Spec) s t) (K : System) (system : IsTrue told.files → IsTrue told.left → IsSystemOf (held s.files spec) K) where
  abbrev c : Command
  c = command.Simulate spec policy seed steps trace cert

  abbrev behind : List Opened
  behind = record { slot = TraceOut; name = trace } ∷ record { slot = CertOut; name = cert } ∷ []

  abbrev opened : List Opened
  opened = record { slot = Spec; name = spec } ∷ behind

  abbrev p : Policy
  p = named_policy policy

  abbrev IsAnswer : (List ℕ → List ℕ) → List ℕ → System → Outcome → Type 0
  IsAnswer content input K o = IsSimulated K p seed steps trace cert o

  words-open : files_opened words ≡ opened
  words-open = ap files_meant means

  used : Slot → Bool
  used slot = only Spec slot || is_output slot

  output-opened : (slot : Slot) → is_output slot ≡ true → opens opened slot ≡ true
  output-opened slot e = on-output (λ x. opens opened x ≡ true) refl refl slot e

  used-opened : (slot : Slot) → used slot ≡ true → opens (files_opened words) slot ≡ true
  unfolding used
  used-opened slot e = ap (λ fs. opens fs slot) words-open ∙ by-either (is_slot Spec slot) (is_output slot) (opens behind slot) e (λ o. output-opened slot o)
    where
      by-either : (a b d : Bool) → (a || b) ≡ true → (b ≡ true → (a || d) ≡ true) → (a || d) ≡ true
      by-either true b d e f = refl
      by-either false b d e f = f e

  output-unread : (slot : Slot) → is_output slot ≡ true → only Spec slot ≡ false
  output-unread slot e = on-output (λ x. only Spec x ≡ false) refl refl slot e

  file-same : (name : List ℕ) → file_at s.files name ≡ file_at t.files name
  file-same name = ap (λ fs. file_at fs name) (sym reads.uses.files)

  defined-output : IsTrue told.files → IsTrue told.left → (o : Output) → IsOutput K p seed steps trace cert o → IsDefinedOutput words s.files o
  defined-output f l o is = simulated spec policy seed steps trace cert means K (system f l) is

  as-told : {P : Type 0} → (IsTrue told.files → IsTrue told.left → P) → IsTold told words → P
  as-told = behind-told told words c means spec behind refl IsAnswer (λ content input o x. x)

  module _ (some : WritesSome told K (named_policy policy) seed steps trace cert t u) where
    stays : Stays told (files_opened words) used s u
    unfolding used
    stays = record {
      unwritten = λ e _. absurd (both_ways (used TraceOut) e refl);
      files = λ f w name e.
          let n : writes opened name ≡ false = sym (ap (λ fs. writes fs name) words-open) ∙ e in
          some.others f w name
          (name-apart trace name (apart-first (bytes_eq trace name) (bytes_eq cert name) n))
          (name-apart cert name (apart-second (bytes_eq trace name) (bytes_eq cert name) n))
          ∙ sym (file-same name);
      inputs = λ slot out. subst (λ x. x ≡ record (s.slot_of slot) { left = x.left; faults = x.faults }) (sym (some.alone.others slot out))
          (uses-changed (only Spec) s t reads.uses slot);
      others = λ slot e.
          some.alone.others slot (or_parts (only Spec slot) (is_output slot) e).1 ∙ reads.uses.others slot (or_parts (only Spec slot) (is_output slot) e).0;
      rises = λ slot. let a = uses-rises (only Spec) s t reads.uses slot in let b = some.alone.rises slot in omega (arith, a, b);
    }

    leaves : Leaves told words used s u
    leaves = record {
      opened = used-opened;
      stays = stays;
      whole = λ tells w name. as-told (λ f l.
          let P : Output → Type 0 = IsOutput K p seed steps trace cert in
          let Q : Output → Type 0 = IsDefinedOutput words s.files in
          whole-moves P Q (defined-output f l) t s u u name (file-same name) refl (some.whole f w name)) tells;
      fronts = λ tells w slot out. as-told (λ f l.
          let P : Output → Type 0 = IsOutput K p seed steps trace cert in
          let Q : Output → Type 0 = IsDefinedOutput words s.files in
          front-moves P Q (defined-output f l) t s u u slot (ap (λ x. x.written) (sym (reads.uses.others slot (output-unread slot out)))) refl
          (some.fronts w slot out)) tells;
    }

  -- both files were written
  module _ (done : Done) (both : WritesBoth told K (named_policy policy) seed steps trace cert t u done) where
    abbrev count : ℕ
    count = length (run K p seed steps)

    stands-for : (reply : Reply) → code_of reply.status ≡ code (nat_lt count steps) →
        reply.line.items ≡ cond (nat_lt count steps) (deadlocked_text count) (simulated_text count) → IsTrue told.files → IsTrue told.left
        → Stands told words reply s u
    stands-for reply status line f l = record {
      outcome = simulate_outcome K p seed steps trace cert both.text;
      status_is = status;
      report_is = line;
      defined = record {
        is = is-outcome told words c means spec behind refl IsAnswer (λ content input o x. x) (held s.files) (input_of s)
            (simulate_outcome K p seed steps trace cert both.text)
            (accepted K (system f l) (record { text = both.text; valid = both.valid; is = refl }));
        files = λ w. (both.trace_holds (names-differ spec policy seed steps trace cert words means) f w, (both.cert_holds f w, record {}));
      };
    }

    answered-by : (reply : Reply) → Contains (answers_of (Ok c)) (code_of reply.status) → (code_of reply.status ≡ 0) ⊎ (code_of reply.status ≡ 8) →
        (IsTrue told.files → IsTrue told.left → Stands told words reply s u) → Answered told words reply s u
    answered-by reply known done is = record {
      used = used;
      leaves = leaves both.some;
      counts = λ slot. both.counts slot ∙ reads.counts slot;
      known = among-answers told words c means spec behind refl IsAnswer (λ content input o x. x) (code_of reply.status) known;
      within = λ slot e. reach-all words slot (code_of reply.status) (unlike 1 (omega arith) (omega arith)) (unlike 3 (omega arith) (omega arith))
          (unlike 4 (omega arith) (omega arith))
          (opened-used words slot (used-opened slot e));
      closed = λ _ slot out _. both.closed slot out;
      stands = as-told is;
    }
      where
        unlike : (n : ℕ) → 0 < n → n < 8 → code_of reply.status ≢ n
        unlike n some few e = ⊎_elim (λ (a : code_of reply.status ≡ 0). omega (arith, a, e, some)) (λ (a : code_of reply.status ≡ 8). omega (arith, a, e, few))
            done

  simulate-answered : (done : Done) (reply : Reply) → IsDoneReply done steps reply → WritesBoth told K (named_policy policy) seed steps trace cert t u done →
      Answered told words reply s u
  simulate-answered Full reply is both =
      let n = length (run K p seed steps) in
      let status = ap (λ o. o.status) is in
      answered-by Full both reply (0, omega arith, sym status) (inl status)
      (stands-for Full both reply
      (status ∙ sym (full-code steps n both.ends))
      (ap (λ o. o.report) is ∙ ap simulated_text (sym both.ends) ∙ sym (full-report steps n (deadlocked_text n) (simulated_text n) both.ends)))
  simulate-answered (Deadlock at) reply is both =
      let n = length (run K p seed steps) in
      let status = ap (λ o. o.status) is in
      answered-by (Deadlock at) both reply (2, omega arith, sym status) (inr status)
      (stands-for (Deadlock at) both reply
      (status ∙ sym (early-code steps n both.ends.1))
      (ap (λ o. o.report) is ∙ ap deadlocked_text (sym both.ends.0) ∙ sym (early-report steps n (deadlocked_text n) (simulated_text n) both.ends.1)))

  -- they were not
  write-faulted : WriteBreaks told K (named_policy policy) seed steps trace cert t u → Faulted told words s u
  write-faulted b = record { used = used; leaves = leaves b.some; cause = ⊎_elim (λ r. cause TraceOut refl r) (λ r. cause CertOut refl r) b.rose }
    where
      cause : (slot : Slot) → opens behind slot ≡ true → RoseAt slot t u → FaultCause told words s u
      cause slot one rose =
          by_file spec behind words-open (λ f l. (K, system f l)) slot one (subst (λ n. Rose n (u.slot_of slot).faults) (reads.counts slot) rose)

  no-trace-read : (name file : List ℕ) (workers : ℕ) → meaning words ≡ Ok (command.Judge name file workers) → ⊥
  no-trace-read name file workers e = let clash : (let R : Result Command Usage = Ok c in R) ≡ Ok (command.Judge name file workers) =
      sym means ∙ e in absurd (cc)

  write-starved : WriteStarves told K (named_policy policy) seed steps trace cert t u → Starved told words s u
  write-starved b = record {
    used = used;
    leaves = leaves b.some;
    counts = λ slot. b.counts slot ∙ reads.counts slot;
    early = λ _ name file workers e. absurd (no-trace-read name file workers e);
  }

  simulate-stopped : (reason : Stop) → IsWriteStop told K (named_policy policy) seed steps trace cert t u reason → IsUnanswered reason told words s u
  simulate-stopped stop.Fault b = write-faulted b
  simulate-stopped stop.Memory b = write-starved b

-- THE WHOLE COMMAND behind an accepted specification
module _ (told : Told) (spec : List ℕ) (policy : PolicyName) (seed steps : ℕ) (trace cert : List ℕ)
    (s t u : State) (reads : Reads (only Spec) s t) (K : System) (system : IsTrue told.files → IsTrue told.left → IsSystemOf (held s.files spec) K)
    (chosen : Policy) (chosen_is : chosen ≡ named_policy policy) where
  pub simulate-answers : (r : Result Reply Stop) →
      IfOk r (λ reply. (done : Done) × IsDoneReply done steps reply × WritesBoth told K chosen seed steps trace cert t u done) →
      IfOk r (λ reply. AnswersTo told (command.Simulate spec policy seed steps trace cert) reply s u)
  simulate-answers (Ok reply) a = λ words means.
      simulate-answered told words spec policy seed steps trace cert means s t u reads K system a.0 reply a.1
      (subst (λ q. WritesBoth told K q seed steps trace cert t u a.0) chosen_is a.2)
  simulate-answers (Err reason) a = a

  pub simulate-stops : (r : Result Reply Stop) → IfErr r (λ reason. IsWriteStop told K chosen seed steps trace cert t u reason) →
      IfErr r (λ reason. StopsAt told (command.Simulate spec policy seed steps trace cert) reason s u)
  simulate-stops (Ok reply) a = a
  simulate-stops (Err reason) a = λ words means.
      simulate-stopped told words spec policy seed steps trace cert means s t u reads K system reason
      (subst (λ q. IsWriteStop told K q seed steps trace cert t u reason) chosen_is a)
