use Rattle.ccsl_print.proofs.ReadBack.{tokens_read_back}
use Rattle.ccsl_print.proofs.laws.tokens_read_back.Goals as goal

pub returns : goal.returns
returns c = tokens_read_back
