use Rattle.std.proofs.Common.{◌≡◌, ◌∙◌, sym, subst, length, true}
use Rattle.ccsl_base.specs.Clocks.{are_below}
use Rattle.ccsl_session.specs.declared.answers.Session.{Session}
use Rattle.ccsl_session.specs.Answering.{system_of}
use Rattle.ccsl_session.proofs.Choices.{next-named}
use Rattle.ccsl_session.proofs.answers.Session.step.Goals as goal

pub put_step-requires : goal.put_step-requires
put_step-requires c =
    let session = c.args.self.now in
    let K = system_of session in
    subst (λ (s : Session). are_below (length (system_of s).names) c.in-Some.set ≡ true) (sym c.next_set.ensures.same)
    (next-named K c.requires.stands.accepted session.policy session.seed session.stack.sets.items c.requires.stack c.in-Some.set
    (sym c.in-Some.is ∙ c.in_ok-set.ensures.next))
