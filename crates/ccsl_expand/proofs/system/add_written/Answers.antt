use Rattle.std.proofs.Common.{filter_map, map}
use Rattle.ccsl_rules.specs.Expansion.{written_item, item_name}
use Rattle.ccsl_expand.specs.Items.{seen_item}
use Rattle.ccsl_expand.proofs.Walks.{walked, one-mapped}
use Rattle.ccsl_expand.proofs.system.add_written.Goals as goal

pub loop-item-preserved : goal.loop-item-preserved
loop-item-preserved c =
    walked (λ ys. map item_name (filter_map written_item (map seen_item ys))) _ c.args.items.now c.loop-item.item-index c.item-item.result
    c.loop-item-test.true c.item-item.is (one-mapped item_name (written_item (seen_item c.item-item.result)) _) _ _ _ c.in_ok-add_if_written.ensures
    c.loop-item.invariant
