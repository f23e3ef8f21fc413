-- The worst so far and the least of the rest is the least of the whole.
use Rattle.std.proofs.Common.{◌≡◌, flat_map, zip}
use Rattle.ccsl_rules.specs.Faults.{least, earlier}
use Rattle.ccsl_rules.specs.Uses.{mismatch}
use Rattle.ccsl_faults.specs.Scenes.{seen_scene}
use Rattle.ccsl_faults.proofs.arguments.mismatches.Given as goal

abbrev pub invariant-loop-param : goal.invariant-loop-param
invariant-loop-param l =
    earlier l.worst (least (flat_map (λ a. mismatch (seen_scene l.scene) a.0 a.1) (zip l.param-iterator.a.rest.now l.param-iterator.b.rest.now)))
    ≡ least (flat_map (λ a. mismatch (seen_scene l.scene) a.0 a.1) (zip l.params l.arguments))
