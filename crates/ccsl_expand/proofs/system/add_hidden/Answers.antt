use Rattle.std.proofs.Common.{filter_map, map}
use Rattle.ccsl_rules.specs.Expansion.{hidden_item, item_name}
use Rattle.ccsl_expand.specs.Items.{seen_item}
use Rattle.ccsl_expand.proofs.Walks.{walked, one-mapped}
use Rattle.ccsl_expand.proofs.system.add_hidden.Goals as goal

pub loop-item-preserved : goal.loop-item-preserved
loop-item-preserved c =
    walked (λ ys. map item_name (filter_map hidden_item (map seen_item ys))) _ c.args.items.now c.loop-item.item-index c.item-item.result
    c.loop-item-test.true c.item-item.is (one-mapped item_name (hidden_item (seen_item c.item-item.result)) _) _ _ _ c.in_ok-add_if_hidden.ensures
    c.loop-item.invariant
