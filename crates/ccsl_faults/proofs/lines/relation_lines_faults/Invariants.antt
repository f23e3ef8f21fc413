-- The worst so far and the least of the rest is the least of the whole.
use Rattle.std.proofs.Common.{◌≡◌, drop, map}
use Rattle.ccsl_ast.specs.Trees.{SLineOf}
use Rattle.ccsl_ast.specs.Plain.{plain_line}
use Rattle.ccsl_rules.specs.Faults.{least, earlier}
use Rattle.ccsl_rules.specs.Blocks.{entries_faults}
use Rattle.ccsl_faults.specs.Scenes.{seen_scene}
use Rattle.ccsl_faults.proofs.lines.relation_lines_faults.Given as goal

abbrev pub invariant-loop-number : goal.invariant-loop-number
invariant-loop-number l =
    earlier l.worst (least (entries_faults (seen_scene l.scene) l.number (map SLineOf (map plain_line (drop l.number l.lines)))))
    ≡ least (entries_faults (seen_scene l.scene) 0 (map SLineOf (map plain_line l.lines)))
