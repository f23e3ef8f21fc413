-- The next member.
use Rattle.std.proofs.Common.{flat_map, map, refl}
use Rattle.ccsl_ast.specs.Plain.{plain_member}
use Rattle.ccsl_faults.specs.Homes.{part_faults}
use Rattle.ccsl_faults.proofs.Walks.{walk-step}
use Rattle.ccsl_faults.proofs.bodies.members_faults.Goals as goal

pub loop-member-preserved : goal.loop-member-preserved
loop-member-preserved c =
    walk-step (λ _ ms. flat_map (part_faults c.args.home.now) (map plain_member ms)) (λ _ m. part_faults c.args.home.now (plain_member m)) (λ i x xs. refl)
    c.args.members.now c.loop-member.worst c.loop-member-test.true c.member-item.is c.earlier-worst.ensures c.in_ok-member_faults.ensures
    c.loop-member.invariant
