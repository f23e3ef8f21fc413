use Rattle.std.proofs.Common.{rules}
use Rattle.ccsl_relate.proofs.relation.holds.Goals as goal

pub returns-in-PrecedesWithin : goal.returns-in-PrecedesWithin
returns-in-PrecedesWithin c = search rules
