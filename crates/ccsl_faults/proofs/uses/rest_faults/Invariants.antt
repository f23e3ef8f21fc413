-- The worst so far and the least of the rest is the least of the whole.
use Rattle.std.proofs.Common.{◌≡◌, drop, flat_map}
use Rattle.ccsl_rules.specs.Faults.{least, earlier}
use Rattle.ccsl_rules.specs.Uses.{prim_faults}
use Rattle.ccsl_faults.specs.Scenes.{seen_scene}
use Rattle.ccsl_faults.proofs.uses.rest_faults.Given as goal

abbrev pub invariant-loop-primary : goal.invariant-loop-primary
invariant-loop-primary l =
    earlier l.worst (least (flat_map (λ p. prim_faults (seen_scene l.scene) p.1) (drop l.primary-index l.rest)))
    ≡ least (flat_map (λ p. prim_faults (seen_scene l.scene) p.1) l.rest)
