-- The command `judge`, as an answer to words that mean it.
use Rattle.std.proofs.Common.{◌≡◌, ◌⊎◌, ℕ, List, [], ◌∷◌, true, false, Result, Ok, Err, IfOk, IfErr, IsTrue, ⊎_elim, refl, sym, ap, ◌∙◌, subst}
use Rattle.std.proofs.lemmas.Bool.{or_left}
use Rattle.ccsl_edge.specs.declared.slot.Slot.{Slot}
use Rattle.ccsl_edge.specs.declared.slot.Slot.TheVariants.{Spec, Trace}
use Rattle.ccsl_edge.specs.World.{State, Told, held}
use Rattle.ccsl_command.specs.declared.command.Command.{Command}
use Rattle.ccsl_command.specs.declared.command.Command.TheVariants as command
use Rattle.ccsl_command.specs.Opened.{Opened}
use Rattle.ccsl_kernel.specs.Syntax.{System}
use Rattle.ccsl_spec.specs.Specifications.{IsSystemOf}
use Rattle.ccsl_top.specs.Outcome.{Outcome}
use Rattle.ccsl_top.specs.Judge.{judge_outcome}
use Rattle.ccsl_top.specs.Changes.{Reads}
use Rattle.ccsl_top.specs.Reading.{only}
use Rattle.ccsl_edge.specs.declared.stop.Stop.{Stop}
use Rattle.ccsl_edge.specs.declared.stop.Stop.TheVariants as stop
use Rattle.ccsl_top.specs.declared.reply.Reply.{Reply}
use Rattle.ccsl_top.specs.Opening.{is_slot, is_output, opens}
use Rattle.ccsl_top.specs.Headline.{EndsNearHeader, LeavesTrace, unopened, near_header}
use Rattle.ccsl_top.specs.Judging.{IsTraceStop}
use Rattle.ccsl_top.specs.Answered.{code_of, plain_reply, IsReadStatus, AnswersTo, StopsAt}
use Rattle.ccsl_top.proofs.Slots.{is_slot-self, same-input}
use Rattle.ccsl_top.proofs.Reaching.{read-known}
use Rattle.ccsl_top.proofs.Writing.{on-output}
use Rattle.ccsl_top.proofs.Behind.{closed-none, read-answered, read-faulted, read-starved}

-- THE WHOLE COMMAND behind an accepted specification
module _ (told : Told) (spec trace : List ℕ) (workers : ℕ) (s t : State) (reads : Reads (only Spec) s t)
    (K : System) (system : IsTrue told.files → IsTrue told.left → IsSystemOf (held s.files spec) K) (u : State) where
  c : Command
  c = command.Judge spec trace workers

  behind : List Opened
  behind = record { slot = Trace; name = trace } ∷ []

  IsAnswer : (List ℕ → List ℕ) → List ℕ → System → Outcome → Type 0
  IsAnswer content input K o = o ≡ judge_outcome K (content trace)

  within : (slot : Slot) → only Trace slot ≡ true → opens behind slot ≡ true
  unfolding behind
  within slot e = or_left (is_slot Trace slot) false e

  unwritten : (slot : Slot) → is_output slot ≡ true → opens behind slot ≡ false
  unfolding behind
  unwritten slot out = on-output (λ x. opens behind x ≡ false) refl refl slot out

  pub judge-replies : (result : Result Reply Stop) → IfOk result (λ _. Reads (only Trace) t u) →
      IfOk result (λ reply. IsReadStatus (plain_reply reply).status) →
      IfOk result (λ reply. IsTrue told.files → IsTrue told.left → plain_reply reply ≡ judge_outcome K (held t.files trace)) →
      IfOk result (λ reply. AnswersTo told (command.Judge spec trace workers) reply s u)
  unfolding c behind IsAnswer
  judge-replies (Ok reply) after status is = λ words means.
      read-answered told words c means spec behind refl IsAnswer (λ content input o x. x) s t reads K system (only Trace) within (same-input Trace refl) u reply
      after status.1
      (read-known reply.status status)
      (closed-none told words c means spec behind refl IsAnswer (λ content input o x. x) unwritten (code_of reply.status) u)
      (λ f l. is f l ∙ ap (λ fs. judge_outcome K (held fs trace)) reads.uses.files)
  judge-replies (Err stop) after status is = after

  trace-stopped : (reason : Stop) → IsTraceStop reason told K trace t u → StopsAt told (command.Judge spec trace workers) reason s u
  unfolding c behind IsAnswer
  trace-stopped stop.Fault b = λ words means.
      read-faulted told words c means spec behind refl IsAnswer (λ content input o x. x) s t reads K system (only Trace) within (same-input Trace refl) u b.uses
      Trace (is_slot-self Trace) b.rose
  trace-stopped stop.Memory b = λ words means.
      read-starved told words c means spec behind refl IsAnswer (λ content input o x. x) s t reads K system (only Trace) within (same-input Trace refl) u
      b.reads
      (λ f l name file n e.
      let spec-same : spec ≡ name = spec-of name file n e in
      let trace-same : trace ≡ file = trace-of name file n e in
      rw (sym spec-same, sym trace-same) (early-of f l (b.early f l)))
    where
      spec-of : (name file : List ℕ) (n : ℕ) → command.Judge spec trace workers ≡ command.Judge name file n → spec ≡ name
      spec-of name file n e = cc

      trace-of : (name file : List ℕ) (n : ℕ) → command.Judge spec trace workers ≡ command.Judge name file n → trace ≡ file
      trace-of name file n e = cc

      early-of : IsTrue told.files → IsTrue told.left → (u.slot_of Trace ≡ t.slot_of Trace) ⊎ EndsNearHeader K (held t.files trace) (u.slot_of Trace).left →
          LeavesTrace spec trace s u
      early-of f l either = ⊎_elim
          (λ same. unopened (same ∙ reads.uses.others Trace refl))
          (λ near. near_header K (system f l) (subst (λ fs. EndsNearHeader K (held fs trace) (u.slot_of Trace).left) reads.uses.files near))
          either

  pub judge-stops : (result : Result Reply Stop) → IfErr result (λ reason. IsTraceStop reason told K trace t u) →
      IfErr result (λ reason. StopsAt told (command.Judge spec trace workers) reason s u)
  judge-stops (Ok reply) is = is
  judge-stops (Err reason) is = trace-stopped reason is
