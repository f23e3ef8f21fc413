-- What stands in the list, and what the rest adds, is the whole.
use Rattle.std.proofs.Common.{◌≡◌, ◌++◌, drop, map}
use Rattle.ccsl_rules.specs.Expansion.{kind_in}
use Rattle.ccsl_expand.proofs.groups.kinds.Given as goal

abbrev pub invariant-loop-param : goal.invariant-loop-param
invariant-loop-param l = l.kinds.items ++ map (λ p. kind_in p.kind) (drop l.param-index l.params) ≡ map (λ p. kind_in p.kind) l.params
