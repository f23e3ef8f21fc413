use Rattle.ccsl_explain.proofs.Cores.{one-core}
use Rattle.ccsl_explain.proofs.laws.cores_are_one.Goals as goal

pub returns : goal.returns
returns c = one-core
