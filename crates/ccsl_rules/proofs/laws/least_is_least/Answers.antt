use Rattle.ccsl_rules.proofs.Least.{least-is}
use Rattle.ccsl_rules.proofs.laws.least_is_least.Goals as goal

pub returns : goal.returns
returns c = least-is
