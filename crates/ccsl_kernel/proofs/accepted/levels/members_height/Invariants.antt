use Rattle.std.proofs.Common.{◌≡◌, map, take}
use Rattle.ccsl_kernel.specs.Plain.{plain_body}
use Rattle.ccsl_kernel.specs.Cells.{greatest}
use Rattle.ccsl_kernel.specs.Accepted.{height}
use Rattle.ccsl_kernel.proofs.accepted.levels.members_height.Given as goal

abbrev pub invariant-loop-member : goal.invariant-loop-member
invariant-loop-member l = l.highest ≡ greatest (map (λ b. height l.levels b.root) (map plain_body (take l.member-index l.members)))
