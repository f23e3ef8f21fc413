use Rattle.ccsl_simulate.specs.Simulation.{words_of_step, simulation}
use Rattle.ccsl_simulate.proofs.Certificates.{end-certified}
use Rattle.ccsl_simulate.proofs.Choosing.{none-admissible}
use Rattle.ccsl_simulate.proofs.Runs.{named_run, short-stops}
use Rattle.std.proofs.Common.{length}
use Rattle.ccsl_simulate.proofs.laws.deadlocks_have_certificates.Goals as goal

pub returns : goal.returns
returns c = λ K ok policy seed steps early.
    let run = simulation K policy seed steps in
    end-certified c.unsolved_have_certificates.ensures K ok (c.formulas_read_named.ensures K ok) run (named_run K policy seed ok steps)
    (none-admissible K run policy (words_of_step K seed (length run)) (short-stops K policy seed steps early))
