use Rattle.ccsl_state.proofs.QuietLaws.{stays_as_it_is}
use Rattle.ccsl_state.proofs.laws.nothing_heard_nothing_moved.Goals as goal

pub returns : goal.returns
returns c = λ K t s gone gone' q. stays_as_it_is K s gone gone' t q
