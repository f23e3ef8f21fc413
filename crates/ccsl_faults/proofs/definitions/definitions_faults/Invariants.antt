-- The worst so far and the least of the rest is the least of the whole.
use Rattle.std.proofs.Common.{◌≡◌, ◌+◌, drop, map}
use Rattle.ccsl_ast.specs.Plain.{plain_definition}
use Rattle.ccsl_rules.specs.Faults.{least, earlier}
use Rattle.ccsl_rules.specs.Blocks.{blocks_faults}
use Rattle.ccsl_spaces.specs.Callees.{seen_call}
use Rattle.ccsl_faults.specs.Levels.{seen_heights}
use Rattle.ccsl_faults.proofs.definitions.definitions_faults.Given as goal

abbrev pub invariant-loop-i : goal.invariant-loop-i
invariant-loop-i l =
    earlier l.worst (least (blocks_faults (map seen_call l.calls) (seen_heights l.heights) (l.first + l.i) (map plain_definition (drop l.i l.definitions))))
    ≡ least (blocks_faults (map seen_call l.calls) (seen_heights l.heights) l.first (map plain_definition l.definitions))
