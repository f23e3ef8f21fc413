use Rattle.std.proofs.Common.{sym, subst}
use Rattle.ccsl_simulate.specs.Laws.{IsSimulation}
use Rattle.ccsl_simulate.proofs.OneSimulation.{simulation-is, is-simulation}
use Rattle.ccsl_simulate.proofs.laws.simulation_is_one.Goals as goal

pub returns : goal.returns
returns c = λ K policy seed steps T. (
  simulation-is K policy seed steps T,
  λ e. subst (IsSimulation K policy seed steps) (sym e) (is-simulation K policy seed steps),
)
