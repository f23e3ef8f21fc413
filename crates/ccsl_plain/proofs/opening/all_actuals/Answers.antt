-- The arguments so far, at one more and at the end.
use Rattle.std.proofs.Common.{arith}
use Rattle.std.proofs.lemmas.Grind.{common_steps}
use Rattle.ccsl_plain.proofs.opening.all_actuals.Goals as goal

pub loop-arg-preserved : goal.loop-arg-preserved
loop-arg-preserved c = grind (arith, common_steps)

pub returns-clause-values : goal.returns-clause-values
returns-clause-values c = grind (arith, common_steps)
