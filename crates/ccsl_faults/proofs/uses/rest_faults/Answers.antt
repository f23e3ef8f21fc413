-- The next primary.
use Rattle.std.proofs.Common.{flat_map, refl}
use Rattle.ccsl_rules.specs.Uses.{prim_faults}
use Rattle.ccsl_faults.specs.Scenes.{seen_scene}
use Rattle.ccsl_faults.proofs.Walks.{walk-step}
use Rattle.ccsl_faults.proofs.uses.rest_faults.Goals as goal

pub loop-primary-preserved : goal.loop-primary-preserved
loop-primary-preserved c =
    walk-step (λ _. flat_map (λ p. prim_faults (seen_scene c.args.scene.now) p.1)) (λ _ p. prim_faults (seen_scene c.args.scene.now) p.1) (λ i x xs. refl)
    c.args.rest.now c.loop-primary.worst c.loop-primary-test.true c.loop-primary-item.is c.earlier-worst.ensures c.primary_faults.ensures
    c.loop-primary.invariant
