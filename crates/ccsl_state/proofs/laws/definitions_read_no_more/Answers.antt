use Rattle.ccsl_state.proofs.QuietLaws.{reads_no_more}
use Rattle.ccsl_state.proofs.laws.definitions_read_no_more.Goals as goal

pub returns : goal.returns
returns c = λ K ok. reads_no_more K ok
