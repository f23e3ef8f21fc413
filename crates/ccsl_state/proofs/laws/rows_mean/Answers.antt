use Rattle.ccsl_state.proofs.StandLaws.{stands_formula, stands_derived, stands_dead}
use Rattle.ccsl_state.proofs.laws.rows_mean.Goals as goal

pub returns : goal.returns
returns c = λ h T ok stands. record { formulas = stands_formula h ok T stands; derived = stands_derived h ok T stands; deaths = stands_dead h ok T stands }
