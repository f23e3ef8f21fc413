use Rattle.std.proofs.Common.{◌≡◌, map, take}
use Rattle.ccsl_kernel.specs.Plain.{plain_body}
use Rattle.ccsl_kernel.specs.Cells.{saturated, greatest, cells_in}
use Rattle.ccsl_kernel.proofs.accepted.cells.most_cells.Given as goal

abbrev pub invariant-loop-member : goal.invariant-loop-member
invariant-loop-member l = l.most ≡ saturated (greatest (map (λ b. cells_in l.earlier b.root) (map plain_body (take l.member-index l.members))))
