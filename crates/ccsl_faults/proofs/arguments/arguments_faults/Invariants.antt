-- The worst so far and the least of the rest is the least of the whole.
use Rattle.std.proofs.Common.{◌≡◌, drop, flat_map}
use Rattle.ccsl_rules.specs.Faults.{least, earlier}
use Rattle.ccsl_rules.specs.Uses.{argument_faults}
use Rattle.ccsl_faults.specs.Scenes.{seen_scene}
use Rattle.ccsl_faults.proofs.arguments.arguments_faults.Given as goal

abbrev pub invariant-loop-argument : goal.invariant-loop-argument
invariant-loop-argument l =
    earlier l.worst (least (flat_map (argument_faults (seen_scene l.scene)) (drop l.argument-index l.arguments)))
    ≡ least (flat_map (argument_faults (seen_scene l.scene)) l.arguments)
