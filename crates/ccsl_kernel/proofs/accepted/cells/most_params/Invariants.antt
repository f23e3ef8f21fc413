use Rattle.std.proofs.Common.{◌≡◌, length, map, take}
use Rattle.ccsl_kernel.specs.Plain.{plain_body}
use Rattle.ccsl_kernel.specs.Cells.{saturated, greatest}
use Rattle.ccsl_kernel.proofs.accepted.cells.most_params.Given as goal

abbrev pub invariant-loop-member : goal.invariant-loop-member
invariant-loop-member l = l.most ≡ saturated (greatest (map (λ b. length b.params) (map plain_body (take l.member-index l.members))))
