-- What stands in the space, and what the rest adds, is the whole.
use Rattle.std.proofs.Common.{◌≡◌, ◌++◌, drop, map}
use Rattle.ccsl_ast.specs.Plain.{plain_member}
use Rattle.ccsl_rules.specs.Spaces.{parts_space}
use Rattle.ccsl_spaces.specs.Callees.{seen_call}
use Rattle.ccsl_spaces.proofs.calls.add_members.Given as goal

abbrev pub invariant-loop-number : goal.invariant-loop-number
invariant-loop-number l =
    map seen_call l.space ++ parts_space l.block l.group l.number (map plain_member (drop l.number l.members))
    ≡ map seen_call l.initial.space ++ parts_space l.block l.group 0 (map plain_member l.members)
