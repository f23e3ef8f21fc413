use Rattle.ccsl_state.proofs.StandLaws.{stay_silent}
use Rattle.ccsl_state.proofs.laws.dead_stay_silent.Goals as goal

pub returns : goal.returns
returns c = λ h ok h' T s stands obeys low short next. stay_silent h ok T stands s h' obeys low short next
