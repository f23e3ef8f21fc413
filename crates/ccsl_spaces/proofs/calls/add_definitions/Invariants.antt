-- What stands in the space, and what the rest adds, is the whole; and so for the number of the next group.
use Rattle.std.proofs.Common.{◌≡◌, ◌≤◌, ◌+◌, ◌++◌, drop, map}
use Rattle.ccsl_ast.specs.Plain.{plain_definition}
use Rattle.ccsl_rules.specs.Spaces.{calls_space}
use Rattle.ccsl_spaces.specs.Callees.{seen_call, groups_after}
use Rattle.ccsl_spaces.proofs.calls.add_definitions.Given as goal

abbrev pub invariant-loop-i : goal.invariant-loop-i
invariant-loop-i l =
    (l.next ≤ l.block + l.i)
    × (map seen_call l.space ++ calls_space (l.block + l.i) l.next (map plain_definition (drop l.i l.definitions))
    ≡ map seen_call l.initial.space ++ calls_space l.block l.group (map plain_definition l.definitions))
    × (groups_after l.next (map plain_definition (drop l.i l.definitions)) ≡ groups_after l.group (map plain_definition l.definitions))
