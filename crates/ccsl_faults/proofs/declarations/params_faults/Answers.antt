-- The next parameter.
use Rattle.std.proofs.Common.{flat_map, true, refl}
use Rattle.ccsl_rules.specs.Faults.{where_so, Arguments}
use Rattle.ccsl_faults.proofs.Walks.{walk-step}
use Rattle.ccsl_faults.proofs.declarations.params_faults.Goals as goal

pub loop-param-preserved : goal.loop-param-preserved
loop-param-preserved c =
    walk-step (λ _. flat_map (λ p. where_so true Arguments p.name.at)) (λ _ p. where_so true Arguments p.name.at) (λ i x xs. refl)
    c.extra_params-param-items.result.now c.loop-param.worst c.loop-param-test.true c.param-item.is c.earlier-worst.ensures c.where_so.ensures
    c.loop-param.invariant
