use Rattle.ccsl_simulate.proofs.Extremes.{minimal-step}
use Rattle.ccsl_simulate.proofs.laws.min_is_minimal.Goals as goal

pub returns : goal.returns
returns c = λ K ok seed steps n l. minimal-step K ok seed steps n l
