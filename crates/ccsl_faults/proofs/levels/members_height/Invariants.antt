-- The greatest so far and that of the rest is that of the whole.
use Rattle.std.proofs.Common.{◌≡◌, drop, map, flat_map, max}
use Rattle.ccsl_ast.specs.Plain.{plain_member}
use Rattle.ccsl_rules.specs.Levels.{called}
use Rattle.ccsl_spaces.specs.Callees.{seen_call}
use Rattle.ccsl_faults.specs.Levels.{height_of}
use Rattle.ccsl_faults.proofs.levels.members_height.Given as goal

abbrev pub invariant-loop-member : goal.invariant-loop-member
invariant-loop-member l =
    max l.height (height_of (map seen_call l.calls) l.levels (flat_map (λ m. called m.body) (map plain_member (drop l.member-index l.members))))
    ≡ height_of (map seen_call l.calls) l.levels (flat_map (λ m. called m.body) (map plain_member l.members))
