use Rattle.ccsl_base.proofs.Words.{members-zero}
use Rattle.ccsl_base.proofs.clock_set.ClockSet.empty.Goals as goal

pub returns : goal.returns
returns c = members-zero 16
