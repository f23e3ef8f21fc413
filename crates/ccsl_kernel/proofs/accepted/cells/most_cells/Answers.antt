use Rattle.std.proofs.Common.{ap, ◌∙◌}
use Rattle.ccsl_kernel.specs.declared.group.Body.{Body as BoxedBody}
use Rattle.ccsl_kernel.specs.Syntax.{Body}
use Rattle.ccsl_kernel.specs.Plain.{plain_body}
use Rattle.ccsl_kernel.specs.Cells.{saturated, cells_in}
use Rattle.ccsl_kernel.proofs.CellCounts.{most_more}
use Rattle.ccsl_kernel.proofs.accepted.cells.most_cells.Goals as goal

pub loop-member-preserved : goal.loop-member-preserved
loop-member-preserved c =
    most_more plain_body (λ (b : Body). cells_in c.args.earlier.now b.root) c.args.members.now c.loop-member.member-index c.member-item.result
    c.loop-member.most c.cells_in.result c.max-most.result
    c.loop-member-test.true c.loop-member.invariant
    (c.cells_in.ensures ∙ ap (λ (b : BoxedBody). saturated (cells_in c.args.earlier.now (plain_body b).root)) c.member-item.is) c.max-most.ensures
