-- What stands in the list, and what the rest adds, is the whole.
use Rattle.std.proofs.Common.{◌≡◌, ◌++◌, drop, map, filter_map}
use Rattle.ccsl_rules.specs.Expansion.{constraint_of}
use Rattle.ccsl_expand.specs.Items.{seen_item}
use Rattle.ccsl_expand.proofs.system.constraints.Given as goal

abbrev pub invariant-loop-item : goal.invariant-loop-item
invariant-loop-item l = l.out.items ++ filter_map (constraint_of l.names) (map seen_item (drop l.item-index l.items)) ≡ filter_map (constraint_of l.names)
    (map seen_item l.items)
