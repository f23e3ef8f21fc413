-- The sum so far and that of the rest are the whole.
use Rattle.std.proofs.Common.{◌≡◌, ◌≤◌, ◌+◌, List, drop, map, length, flat_map}
use Rattle.ccsl_ast.specs.Plain.{plain_sline}
use Rattle.ccsl_rules.specs.Counts.{cut}
use Rattle.ccsl_rules.specs.Expansion.{declared_names}
use Rattle.ccsl_ast.specs.declared.line.SystemLine.{SystemLine}
use Rattle.ccsl_elaborate.proofs.counts.declared_count.Given as goal

abbrev pub invariant-loop-line : goal.invariant-loop-line
invariant-loop-line l = let f =
    λ (ls : List SystemLine). length (flat_map declared_names (map plain_sline ls)) in
    record { small : l.total ≤ 4294967295; whole : cut (l.total + f (drop l.line-index l.lines)) ≡ cut (f l.lines) }
