use Rattle.ccsl_base.proofs.ReservedWords.{words_read_back}
use Rattle.ccsl_base.proofs.laws.words_read_back.Goals as goal

pub returns : goal.returns
returns c = words_read_back
