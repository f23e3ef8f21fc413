use Rattle.std.proofs.Common.{◌≡◌, [], map, take}
use Rattle.ccsl_kernel.specs.Plain.{plain_group}
use Rattle.ccsl_kernel.specs.Cells.{saturated, groups_cells}
use Rattle.ccsl_kernel.proofs.accepted.cells.groups_cells.Given as goal

abbrev pub invariant-loop-group : goal.invariant-loop-group
invariant-loop-group l = l.earlier.items ≡ map saturated (groups_cells [] (map plain_group (take l.group-index l.groups)))
