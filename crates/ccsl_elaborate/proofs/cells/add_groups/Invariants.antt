-- The counts so far and those of the rest are the whole.
use Rattle.std.proofs.Common.{◌≡◌, drop, map}
use Rattle.ccsl_ast.specs.Plain.{plain_definition}
use Rattle.ccsl_spaces.specs.Callees.{seen_call}
use Rattle.ccsl_elaborate.specs.TreeCells.{groups_before}
use Rattle.ccsl_elaborate.proofs.cells.add_groups.Given as goal

abbrev pub invariant-loop-definition : goal.invariant-loop-definition
invariant-loop-definition l = let f =
    groups_before (map seen_call l.calls) in
    f l.groups.items (map plain_definition (drop l.definition-index l.definitions)) ≡ f l.fn.groups.items (map plain_definition l.definitions)
