-- What stands in the list, and what the rest adds, is the whole.
use Rattle.std.proofs.Common.{◌≡◌, ◌++◌, drop, map, filter_map}
use Rattle.ccsl_rules.specs.Expansion.{written_item, item_name}
use Rattle.ccsl_expand.specs.Items.{seen_item}
use Rattle.ccsl_expand.proofs.system.add_written.Given as goal

abbrev pub invariant-loop-item : goal.invariant-loop-item
invariant-loop-item l = l.names.items ++ map item_name (filter_map written_item (map seen_item (drop l.item-index l.items))) ≡ l.fn.names.items
    ++ map item_name (filter_map written_item (map seen_item l.items))
