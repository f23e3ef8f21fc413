use Rattle.ccsl_session.proofs.Stacks.{stack-runs}
use Rattle.ccsl_session.proofs.laws.stacks_run.Goals as goal

pub returns : goal.returns
returns c = stack-runs
