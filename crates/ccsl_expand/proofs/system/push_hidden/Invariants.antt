-- What stands in the list, and what the rest adds, is the whole.
use Rattle.std.proofs.Common.{◌≡◌, ◌++◌, drop, map, filter_map}
use Rattle.ccsl_kernel.specs.Plain.{plain_expr}
use Rattle.ccsl_rules.specs.Expansion.{hidden_item, item_definition}
use Rattle.ccsl_expand.specs.Seen.{seen_tables}
use Rattle.ccsl_expand.specs.Items.{seen_item}
use Rattle.ccsl_expand.proofs.system.push_hidden.Given as goal

abbrev pub invariant-loop-item : goal.invariant-loop-item
invariant-loop-item l = let f =
    item_definition (seen_tables l.tables) in
    map plain_expr l.out.items ++ map f (filter_map hidden_item (map seen_item (drop l.item-index l.items))) ≡ map plain_expr l.fn.out.items
    ++ map f (filter_map hidden_item (map seen_item l.items))
