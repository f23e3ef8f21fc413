use Rattle.std.proofs.Common.{filter_map, map}
use Rattle.ccsl_rules.specs.Expansion.{constraint_of}
use Rattle.ccsl_expand.specs.Items.{seen_item}
use Rattle.ccsl_expand.proofs.Walks.{walked, one-kept}
use Rattle.ccsl_expand.proofs.system.constraints.Goals as goal

pub loop-item-preserved : goal.loop-item-preserved
loop-item-preserved c =
    let f = constraint_of c.args.names.now in
    walked (λ ys. filter_map f (map seen_item ys)) _ c.args.items.now c.loop-item.item-index c.item-item.result
    c.loop-item-test.true c.item-item.is (one-kept (f (seen_item c.item-item.result)) _) _ _ _ c.in_ok-push_if_constraint.ensures
    c.loop-item.invariant
