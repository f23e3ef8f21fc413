use Rattle.std.proofs.Common.{ap, filter, nat_lt, ◌∙◌}
use Rattle.ccsl_formula.specs.declared.scope.Scope.{Scope}
use Rattle.ccsl_session.proofs.Choices.{step-next, deadlock-next}
use Rattle.ccsl_session.proofs.answers.Session.next_set.Goals as goal

pub returns-in-Step-clause-next : goal.returns-in-Step-clause-next
returns-in-Step-clause-next c =
    let session = c.args.self.now in
    let chosen = rw c.in-Step.is at c.in_ok-set.ensures.choice in
    let declared = ap (λ (s : Scope). s.declared) c.scope-declared.ensures.scope in
    step-next session.stack.system.now c.requires.stands.accepted session.policy session.seed session.stack.sets.items c.requires.stack c.in-Step.set
    c.below.result c.below.ensures.ascending chosen (c.below.ensures.members ∙ ap (λ n. filter (λ x. nat_lt x n) c.in-Step.set) declared)

pub returns-in-Deadlock-clause-next : goal.returns-in-Deadlock-clause-next
returns-in-Deadlock-clause-next c =
    let session = c.args.self.now in
    deadlock-next session.stack.system.now c.requires.stands.accepted session.policy session.seed session.stack.sets.items c.requires.stack
    c.in-Deadlock._lines (rw c.in-Deadlock.is at c.in_ok-set.ensures.choice)
