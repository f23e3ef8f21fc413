use Rattle.std.proofs.Common.{rules}
use Rattle.ccsl_guide.proofs.guide.all_items.Goals as goal

pub loop-item-preserved : goal.loop-item-preserved
loop-item-preserved c = search rules
