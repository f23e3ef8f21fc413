use Rattle.std.proofs.Common.{◌≡◌, map, take}
use Rattle.ccsl_rules.specs.Resolved.{resolve_prim}
use Rattle.ccsl_rules.specs.Settings.{resolve_sign}
use Rattle.ccsl_expand.proofs.term.term.Given as goal

abbrev pub invariant-loop-part : goal.invariant-loop-part
invariant-loop-part l = l.rest.items ≡ map (λ p. (resolve_sign p.0, resolve_prim l.setting p.1)) (take l.part-index l.part-items)
