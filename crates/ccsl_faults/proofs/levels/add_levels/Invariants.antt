-- The levels so far, and those that the rest adds, are those of the whole.
use Rattle.std.proofs.Common.{◌≡◌, ◌≤◌, ◌+◌, drop, map, length}
use Rattle.ccsl_ast.specs.Plain.{plain_definition}
use Rattle.ccsl_rules.specs.Levels as rules
use Rattle.ccsl_kernel.specs.Cells.{greatest}
use Rattle.ccsl_spaces.specs.Callees.{seen_call}
use Rattle.ccsl_faults.specs.Levels.{seen_sort}
use Rattle.ccsl_faults.proofs.levels.add_levels.Given as goal

abbrev pub invariant-loop-definition : goal.invariant-loop-definition
invariant-loop-definition l =
    (rules.levels (seen_sort l.sort) (map seen_call l.calls) l.levels.items (map plain_definition (drop l.definition-index l.definitions))
    ≡ rules.levels (seen_sort l.sort) (map seen_call l.calls) l.initial.levels.items (map plain_definition l.definitions))
    × (greatest l.levels.items ≤ length l.levels.items)
    × (length l.levels.items ≡ length l.initial.levels.items + l.definition-index)
