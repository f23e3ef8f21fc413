use Rattle.std.proofs.Common.{◌≡◌, ◌++◌, map, take, drop}
use Rattle.ccsl_triggers.specs.Sized.{lower}
use Rattle.ccsl_triggers.proofs.signal.make_lower.Given as goal

abbrev pub invariant-loop-b : goal.invariant-loop-b
invariant-loop-b l = l.b-items ≡ map lower (take l.b-index l.fn.letters) ++ drop l.b-index l.fn.letters
