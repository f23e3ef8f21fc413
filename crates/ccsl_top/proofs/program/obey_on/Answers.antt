use Rattle.std.proofs.Common.{Ok, ap, ◌∙◌}
use Rattle.std.proofs.lemmas.Result.{IfOk-weaker, IfErr-weaker}
use Rattle.ccsl_top.specs.Specified.{spec_of}
use Rattle.ccsl_top.specs.Answered.{Answered, IsUnanswered, AnswersTo, StopsAt}
use Rattle.ccsl_top.proofs.program.obey_on.Goals as goal

pub returns-in-Session : goal.returns-in-Session
returns-in-Session g c = λ words start means b.
    c.session.ensures words start (record {
      spec = _;
      name = c.in-Session.policy;
      means = means ∙ ap Ok c.in-Session.is;
      policy_is = c.policy_named.ensures;
      reads = b.reads;
      system = b.system _ (ap spec_of c.in-Session.is);
    })

pub returns : goal.returns
returns g c = λ words start means b.
    let told = g.W.World.told in
    let now = g.W.World.state c.answer_on-answer.new.world in
    let r = c.answer_on-answer.result in
    c.report.ensures words start
    (IfOk-weaker r (λ reply. AnswersTo told c.args.command.now reply start now) (λ reply. Answered told words reply start now)
    (λ reply a. a words means) (c.answer_on-answer.ensures.ok start b))
    (IfErr-weaker r (λ stop. StopsAt told c.args.command.now stop start now) (λ stop. IsUnanswered stop told words start now)
    (λ stop a. a words means) (c.answer_on-answer.ensures.err start b))
