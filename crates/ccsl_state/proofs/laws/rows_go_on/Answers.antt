use Rattle.ccsl_state.proofs.StandLaws.{stands_next}
use Rattle.ccsl_state.proofs.laws.rows_go_on.Goals as goal

pub returns : goal.returns
returns c = λ h ok h' T s stands. stands_next h ok T stands s h'
