use Rattle.std.proofs.Common.{filter_map, map}
use Rattle.ccsl_rules.specs.Expansion.{written_item, item_definition}
use Rattle.ccsl_expand.specs.Seen.{seen_tables}
use Rattle.ccsl_expand.specs.Items.{seen_item}
use Rattle.ccsl_expand.proofs.Walks.{walked, one-mapped}
use Rattle.ccsl_expand.proofs.system.push_written.Goals as goal

pub loop-item-preserved : goal.loop-item-preserved
loop-item-preserved c =
    let f = item_definition (seen_tables c.args.tables.now) in
    walked (λ ys. map f (filter_map written_item (map seen_item ys))) _ c.args.items.now c.loop-item.item-index c.item-item.result
    c.loop-item-test.true c.item-item.is (one-mapped f (written_item (seen_item c.item-item.result)) _) _ _ _ c.in_ok-push_if_written.ensures
    c.loop-item.invariant
