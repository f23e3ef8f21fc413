use Rattle.ccsl_simulate.proofs.Runs.{named_run}
use Rattle.ccsl_simulate.proofs.laws.simulations_run.Goals as goal

pub returns : goal.returns
returns c = λ K policy ok seed steps. named_run K policy seed ok steps
