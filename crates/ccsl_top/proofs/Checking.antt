-- What is checked behind an accepted specification.
use Rattle.std.proofs.Common.{◌≡◌, ℕ, List, [], Result, Ok, Err, IfOk, IfErr, IsTrue, refl, sym, ap, arith}
use Rattle.ccsl_edge.specs.declared.slot.Slot.TheVariants.{Spec}
use Rattle.ccsl_edge.specs.World.{State, Told, held}
use Rattle.ccsl_command.specs.declared.command.Command.TheVariants as command
use Rattle.ccsl_kernel.specs.Syntax.{System}
use Rattle.ccsl_spec.specs.Specifications.{IsSystemOf}
use Rattle.ccsl_edge.specs.declared.stop.Stop.{Stop}
use Rattle.ccsl_edge.specs.declared.stop.Stop.TheVariants.{Memory}
use Rattle.ccsl_top.specs.declared.reply.Reply.{Reply}
use Rattle.ccsl_top.specs.Check.{check_outcome}
use Rattle.ccsl_top.specs.Changes.{Reads}
use Rattle.ccsl_top.specs.Reading.{only}
use Rattle.ccsl_top.specs.Answered.{plain_reply, AnswersTo, StopsAt}
use Rattle.ccsl_top.proofs.Behind.{spec-answered, reading-stops}

module _ (told : Told) (spec : List ℕ) (s t : State) (reads : Reads (only Spec) s t) where
  pub check-answers : (K : System) → (IsTrue told.files → IsTrue told.left → IsSystemOf (held s.files spec) K) → (result : Result Reply Stop) →
      IfOk result (λ reply. plain_reply reply ≡ check_outcome K) → IfOk result (λ reply. AnswersTo told (command.Check spec) reply s t)
  check-answers K system (Ok reply) is = λ words means.
      let status = ap (λ o. o.status) is in
      spec-answered told words (command.Check spec) means spec [] refl (λ content input K o. o ≡ check_outcome K) (λ content input o is. is) s t reads K system
      (λ slot out. refl) reply (0, omega arith, sym status) is
  check-answers K system (Err reason) is = is

  pub check-stops : (result : Result Reply Stop) → IfErr result (λ reason. reason ≡ Memory) →
      IfErr result (λ reason. StopsAt told (command.Check spec) reason s t)
  check-stops (Ok reply) is = is
  check-stops (Err reason) is =
      rw is (reading-stops told (command.Check spec) spec [] refl (λ content input K o. o ≡ check_outcome K) (λ content input o is. is) s t Memory reads)
