use Rattle.ccsl_expand.proofs.Walks.{drop-at}
use Rattle.ccsl_elaborate.proofs.counts.weigh_definitions.Goals as goal

pub loop-definition-preserved : goal.loop-definition-preserved
loop-definition-preserved c =
    let rest = drop-at c.args.definitions.now c.loop-definition.definition-index c.definition-item.result c.loop-definition-test.true c.definition-item.is in
    rw (c.in_ok-push.ensures.items, c.block_weight-weight.ensures, c.deref.ensures.value) (rw rest at c.loop-definition.invariant)
