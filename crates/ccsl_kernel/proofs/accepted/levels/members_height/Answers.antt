use Rattle.std.proofs.Common.{max, ap, ap₂, ◌∙◌}
use Rattle.ccsl_kernel.specs.declared.group.Body.{Body as BoxedBody}
use Rattle.ccsl_kernel.specs.Syntax.{Body}
use Rattle.ccsl_kernel.specs.Plain.{plain_body}
use Rattle.ccsl_kernel.specs.Accepted.{height}
use Rattle.ccsl_kernel.proofs.Greatest.{greatest_more}
use Rattle.ccsl_kernel.proofs.accepted.levels.members_height.Goals as goal

pub loop-member-preserved : goal.loop-member-preserved
loop-member-preserved c =
    let here = c.height.ensures ∙ ap (λ (b : BoxedBody). height c.args.levels.now (plain_body b).root) c.member-item.is in
    c.max-highest.ensures
    ∙ ap₂ max c.loop-member.invariant here
    ∙ greatest_more plain_body (λ (b : Body). height c.args.levels.now b.root) c.args.members.now c.loop-member.member-index c.member-item.result
    c.loop-member-test.true
