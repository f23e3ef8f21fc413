use Rattle.ccsl_simulate.proofs.Runs.{front}
use Rattle.ccsl_simulate.proofs.laws.fewer_steps_are_a_front.Goals as goal

pub returns : goal.returns
returns c = λ K policy seed n steps. front K policy seed n steps
