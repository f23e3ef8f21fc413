-- The next argument.
use Rattle.std.proofs.Common.{flat_map, refl}
use Rattle.ccsl_rules.specs.Uses.{argument_faults}
use Rattle.ccsl_faults.specs.Scenes.{seen_scene}
use Rattle.ccsl_faults.proofs.Walks.{walk-step}
use Rattle.ccsl_faults.proofs.arguments.arguments_faults.Goals as goal

pub loop-argument-preserved : goal.loop-argument-preserved
loop-argument-preserved c =
    walk-step (λ _. flat_map (argument_faults (seen_scene c.args.scene.now))) (λ _. argument_faults (seen_scene c.args.scene.now)) (λ i x xs. refl)
    c.args.arguments.now c.loop-argument.worst c.loop-argument-test.true c.argument-item.is c.earlier-worst.ensures c.in_ok-argument_faults.ensures
    c.loop-argument.invariant
