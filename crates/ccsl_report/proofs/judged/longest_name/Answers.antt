use Rattle.std.proofs.Common.{refl}
use Rattle.ccsl_report.proofs.Lengths.{longest_step}
use Rattle.ccsl_report.proofs.judged.longest_name.Goals as goal

pub loop-i-preserved : goal.loop-i-preserved
loop-i-preserved c = longest_step _ c.loop-i.i _ c.loop-i.longest _ c.longer-longest.result c.get.ensures.name refl c.longer-longest.ensures c.loop-i.invariant
