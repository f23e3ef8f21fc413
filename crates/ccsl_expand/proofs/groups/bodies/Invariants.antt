-- What stands in the list, and what the rest adds, is the whole.
use Rattle.std.proofs.Common.{◌≡◌, ◌++◌, drop, map}
use Rattle.ccsl_ast.specs.Plain.{plain_member}
use Rattle.ccsl_kernel.specs.Plain.{plain_body}
use Rattle.ccsl_rules.specs.Expansion.{part_bodies}
use Rattle.ccsl_expand.specs.Seen.{seen_tables}
use Rattle.ccsl_expand.proofs.groups.bodies.Given as goal

abbrev pub invariant-loop-member : goal.invariant-loop-member
invariant-loop-member l =
    map plain_body l.bodies.items ++ part_bodies (seen_tables l.tables) l.next (map plain_member (drop l.member-index l.members)) ≡ part_bodies
    (seen_tables l.tables) l.start (map plain_member l.members)
