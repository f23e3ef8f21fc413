use Rattle.std.proofs.Common.{◌≡◌}
use Rattle.ccsl_explain.specs.LeastSteps.{negatives}
use Rattle.ccsl_explain.proofs.least.negatives.Given as goal

abbrev pub invariant-loop-clock : goal.invariant-loop-clock
invariant-loop-clock l = l.lits.items ≡ negatives l.clock
