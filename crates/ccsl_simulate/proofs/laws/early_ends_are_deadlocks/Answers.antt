use Rattle.std.proofs.Common.{length}
use Rattle.ccsl_simulate.specs.Simulation.{words_of_step, simulation}
use Rattle.ccsl_simulate.proofs.Choosing.{none-admissible}
use Rattle.ccsl_simulate.proofs.Runs.{short-stops}
use Rattle.ccsl_simulate.proofs.laws.early_ends_are_deadlocks.Goals as goal

pub returns : goal.returns
returns c = λ K policy seed steps early s.
    let run = simulation K policy seed steps in
    none-admissible K run policy (words_of_step K seed (length run)) (short-stops K policy seed steps early) s
