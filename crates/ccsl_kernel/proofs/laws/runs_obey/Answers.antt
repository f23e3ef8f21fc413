-- Its items say so.
use Rattle.ccsl_kernel.proofs.Completion.{runs_obey}
use Rattle.ccsl_kernel.proofs.laws.runs_obey.Goals as goal

pub returns : goal.returns
returns c = λ K T run. runs_obey K T run
