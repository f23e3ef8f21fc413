use Rattle.std.proofs.Common.{◌≡◌}
use Rattle.ccsl_refute.specs.Literals.{positives}
use Rattle.ccsl_refute.proofs.clause.positives.Given as goal

abbrev pub invariant-loop-clock : goal.invariant-loop-clock
invariant-loop-clock l = l.lits.items ≡ positives l.clock
