-- The sum so far and that of the rest are the whole.
use Rattle.std.proofs.Common.{◌≡◌, ◌≤◌, ◌+◌, drop, map}
use Rattle.ccsl_ast.specs.Plain.{plain_sline}
use Rattle.ccsl_rules.specs.Counts.{cut, body_count}
use Rattle.ccsl_spaces.specs.Callees.{seen_call}
use Rattle.ccsl_elaborate.specs.Weighed.{weights_of}
use Rattle.ccsl_elaborate.proofs.counts.system_weight.Given as goal

abbrev pub invariant-loop-line : goal.invariant-loop-line
invariant-loop-line l = let f =
    body_count (weights_of (map seen_call l.calls) l.total) (map seen_call l.calls) l.weighed in
    record { small : l.sum ≤ 4294967295; whole : cut (l.sum + f (map plain_sline (drop l.line-index l.lines))) ≡ f (map plain_sline l.lines) }
