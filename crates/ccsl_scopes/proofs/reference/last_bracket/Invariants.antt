use Rattle.std.proofs.Common.{◌≡◌, take}
use Rattle.ccsl_scopes.specs.References.{last_bracket}
use Rattle.ccsl_scopes.proofs.reference.last_bracket.Given as goal

abbrev pub invariant-loop-i : goal.invariant-loop-i
invariant-loop-i l = l.found ≡ last_bracket (take l.i l.text)
