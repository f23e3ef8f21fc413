use Rattle.std.proofs.Common.{◌≡◌, length}
use Rattle.ccsl_formula.specs.Known.{known}
use Rattle.ccsl_refute.specs.Literals.{unit}
use Rattle.ccsl_refute.proofs.clause.unit.Given as goal

abbrev pub invariant-loop-rest : goal.invariant-loop-rest
invariant-loop-rest l = unit (known l.part) l.rest ≡ unit (known l.part) l.lits

abbrev pub decreases-loop-rest : goal.decreases-loop-rest
decreases-loop-rest l = length l.rest
