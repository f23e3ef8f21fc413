-- The worst so far and the least of the rest is the least of the whole.
use Rattle.std.proofs.Common.{◌≡◌, drop, flat_map, true}
use Rattle.ccsl_rules.specs.Faults.{least, earlier, where_so, Arguments}
use Rattle.ccsl_rules.specs.Blocks.{params_faults}
use Rattle.ccsl_faults.proofs.declarations.params_faults.Given as goal

abbrev pub invariant-loop-param : goal.invariant-loop-param
invariant-loop-param l =
    earlier l.worst (least (flat_map (λ p. where_so true Arguments p.name.at) (drop l.param-index l.param-items))) ≡ least (params_faults l.params)
