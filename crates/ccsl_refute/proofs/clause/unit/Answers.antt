use Rattle.std.proofs.lemmas.Grind.{common_steps}
use Rattle.std.proofs.Common.{arith}
use Rattle.ccsl_refute.proofs.clause.unit.Goals as goal

pub returns-then-all_false : goal.returns-then-all_false
returns-then-all_false c = grind (arith, common_steps)
