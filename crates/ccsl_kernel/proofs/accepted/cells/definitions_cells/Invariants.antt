use Rattle.std.proofs.Common.{◌≡◌, map, sum, take}
use Rattle.ccsl_kernel.specs.Plain.{plain_expr}
use Rattle.ccsl_kernel.specs.Cells.{saturated, cells_in}
use Rattle.ccsl_kernel.proofs.accepted.cells.definitions_cells.Given as goal

abbrev pub invariant-loop-definition : goal.invariant-loop-definition
invariant-loop-definition l = l.total ≡ saturated (sum (map (cells_in l.earlier) (map plain_expr (take l.definition-index l.definitions))))
