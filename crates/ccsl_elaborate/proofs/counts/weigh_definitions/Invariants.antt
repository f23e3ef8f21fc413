-- The counts so far and those of the rest are the whole.
use Rattle.std.proofs.Common.{◌≡◌, drop, map}
use Rattle.ccsl_ast.specs.Plain.{plain_definition}
use Rattle.ccsl_rules.specs.Counts.{counts}
use Rattle.ccsl_spaces.specs.Callees.{seen_call}
use Rattle.ccsl_elaborate.specs.Weighed.{weights_of}
use Rattle.ccsl_elaborate.proofs.counts.weigh_definitions.Given as goal

abbrev pub invariant-loop-definition : goal.invariant-loop-definition
invariant-loop-definition l = let f =
    counts (weights_of (map seen_call l.calls) l.total) (map seen_call l.calls) in
    f l.weighed.items (map plain_definition (drop l.definition-index l.definitions)) ≡ f l.fn.weighed.items (map plain_definition l.definitions)
