use Rattle.std.proofs.Common.{List, length, ap, ◌∙◌}
use Rattle.ccsl_kernel.specs.declared.group.Body.{Body as BoxedBody}
use Rattle.ccsl_kernel.specs.declared.group.ParamKind.{ParamKind}
use Rattle.ccsl_kernel.specs.Syntax.{Body}
use Rattle.ccsl_kernel.specs.Plain.{plain_body}
use Rattle.ccsl_kernel.specs.Cells.{saturated}
use Rattle.ccsl_kernel.proofs.CellCounts.{most_more}
use Rattle.ccsl_kernel.proofs.accepted.cells.most_params.Goals as goal

pub loop-member-preserved : goal.loop-member-preserved
loop-member-preserved c =
    most_more plain_body (λ (b : Body). length b.params) c.args.members.now c.loop-member.member-index c.member-item.result c.loop-member.most
    c.saturated.result c.max-most.result
    c.loop-member-test.true c.loop-member.invariant
    (c.saturated.ensures ∙ ap (λ (ks : List ParamKind). saturated (length ks)) c.members.ensures
    ∙ ap (λ (b : BoxedBody). saturated (length b.params)) c.member-item.is) c.max-most.ensures
