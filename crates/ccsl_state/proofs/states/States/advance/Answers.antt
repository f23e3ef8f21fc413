-- The row goes on as the list does.
use Rattle.std.proofs.Common.{arith, subst}
use Rattle.std.proofs.lemmas.Grind.{common_steps}
use Rattle.ccsl_kernel.specs.Accepted.{IsAccepted}
use Rattle.ccsl_state.specs.Held.{Held}
use Rattle.ccsl_state.proofs.StandLaws.{stands_next, stay_silent}
use Rattle.ccsl_state.proofs.states.States.advance.Goals as goal

pub returns-clause-row : goal.returns-clause-row
returns-clause-row c = grind (arith, common_steps)

pub returns-clause-step : goal.returns-clause-step
returns-clause-step c = grind (arith, common_steps)

pub returns-clause-stands : goal.returns-clause-stands
returns-clause-stands c = λ T stands short.
    let ok = subst (λ (h : Held). IsAccepted h.system) c.self.view_is c.self.invariant.accepted in
    stands_next c.args.self.now ok T stands c.args.declared.now _ (returns-clause-row c) short

pub returns-clause-silent : goal.returns-clause-silent
returns-clause-silent c = λ T stands short obeys low.
    let ok = subst (λ (h : Held). IsAccepted h.system) c.self.view_is c.self.invariant.accepted in
    rw (returns-clause-step c) (stay_silent c.args.self.now ok T stands c.args.declared.now _ obeys low short (returns-clause-row c))
