use Rattle.ccsl_relate.proofs.Undeclared.{range-more}
use Rattle.ccsl_relate.proofs.steps.undeclared.Goals as goal

pub loop-clock-preserved : goal.loop-clock-preserved
loop-clock-preserved c = rw c.insert.ensures (range-more _ _ _ c.loop-clock.invariant)
