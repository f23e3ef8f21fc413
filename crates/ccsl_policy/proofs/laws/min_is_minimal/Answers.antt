use Rattle.ccsl_policy.proofs.First.{minimal}
use Rattle.ccsl_policy.proofs.laws.min_is_minimal.Goals as goal

pub returns : goal.returns
returns c = minimal
