-- The next member.
use Rattle.std.proofs.Common.{map}
use Rattle.ccsl_ast.specs.Plain.{plain_member}
use Rattle.ccsl_rules.specs.Levels.{called}
use Rattle.ccsl_spaces.specs.Callees.{seen_call}
use Rattle.ccsl_faults.proofs.Heights.{height-step}
use Rattle.ccsl_faults.proofs.levels.members_height.Goals as goal

pub loop-member-preserved : goal.loop-member-preserved
loop-member-preserved c =
    height-step (map seen_call c.args.calls.now) c.args.levels.now (λ m. called m.body) plain_member c.args.members.now c.loop-member.height
    c.loop-member-test.true
    c.member-item.is c.greater-height.ensures c.tree_height.ensures c.loop-member.invariant
