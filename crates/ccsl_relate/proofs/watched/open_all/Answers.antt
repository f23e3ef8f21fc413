use Rattle.std.proofs.lemmas.Grind.{common_steps}
use Rattle.std.proofs.Common.{arith, length-append}
use Rattle.ccsl_relate.proofs.Partly.{each-more}
use Rattle.ccsl_relate.proofs.watched.open_all.Goals as goal

pub loop-place-preserved : goal.loop-place-preserved
loop-place-preserved c = grind (arith, common_steps, each-more, length-append)
