use Rattle.ccsl_simulate.proofs.Extremes.{maximal-step}
use Rattle.ccsl_simulate.proofs.laws.max_is_maximal.Goals as goal

pub returns : goal.returns
returns c = λ K ok seed steps n l. maximal-step K ok seed steps n l
