-- The worst so far and the least of the rest is the least of the whole.
use Rattle.std.proofs.Common.{◌≡◌, drop, map, flat_map}
use Rattle.ccsl_ast.specs.Plain.{plain_member}
use Rattle.ccsl_rules.specs.Faults.{least, earlier}
use Rattle.ccsl_faults.specs.Homes.{part_faults}
use Rattle.ccsl_faults.proofs.bodies.members_faults.Given as goal

abbrev pub invariant-loop-member : goal.invariant-loop-member
invariant-loop-member l =
    earlier l.worst (least (flat_map (part_faults l.home) (map plain_member (drop l.member-index l.members))))
    ≡ least (flat_map (part_faults l.home) (map plain_member l.members))
