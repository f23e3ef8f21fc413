use Rattle.ccsl_explain.proofs.Cores.{minimal}
use Rattle.ccsl_explain.proofs.laws.cores_are_minimal.Goals as goal

pub returns : goal.returns
returns c = minimal
