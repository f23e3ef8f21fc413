use Rattle.ccsl_policy.proofs.First.{maximal}
use Rattle.ccsl_policy.proofs.laws.max_is_maximal.Goals as goal

pub returns : goal.returns
returns c = maximal
