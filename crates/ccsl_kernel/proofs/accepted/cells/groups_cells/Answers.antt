use Rattle.std.proofs.Common.{ℕ, List, ap, ◌∙◌}
use Rattle.ccsl_kernel.specs.declared.group.Group.{Group}
use Rattle.ccsl_kernel.specs.Plain.{plain_group}
use Rattle.ccsl_kernel.specs.Cells.{saturated, group_cells}
use Rattle.ccsl_kernel.proofs.CellCounts.{groups_more}
use Rattle.ccsl_kernel.proofs.accepted.cells.groups_cells.Goals as goal

pub loop-group-preserved : goal.loop-group-preserved
loop-group-preserved c =
    c.in_ok-push.ensures.items
    ∙ groups_more plain_group c.args.groups.now c.loop-group.group-index c.group-item.result c.loop-group.earlier.items c.group_cells.result
    c.loop-group-test.true c.loop-group.invariant
    (c.group_cells.ensures
    ∙ ap (λ (ns : List ℕ). saturated (group_cells ns (plain_group c.group-item.result))) c.as_slice.ensures.value
    ∙ ap (λ (g : Group). saturated (group_cells c.loop-group.earlier.items (plain_group g))) c.group-item.is)
