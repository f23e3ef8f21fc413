use Rattle.ccsl_explain.proofs.Cores.{core-block}
use Rattle.ccsl_explain.proofs.laws.cores_block.Goals as goal

pub returns : goal.returns
returns c = core-block
