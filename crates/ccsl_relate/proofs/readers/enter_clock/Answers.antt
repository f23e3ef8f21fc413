use Rattle.std.proofs.lemmas.Grind.{common_steps}
use Rattle.std.proofs.Common.{arith}
use Rattle.ccsl_relate.proofs.Told.{told-more}
use Rattle.ccsl_relate.proofs.readers.enter_clock.Goals as goal

pub returns : goal.returns
returns c = grind (arith, common_steps, told-more)
