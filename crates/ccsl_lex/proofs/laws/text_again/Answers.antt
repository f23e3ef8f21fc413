use Rattle.ccsl_lex.proofs.Again.{text_again}
use Rattle.ccsl_lex.proofs.laws.text_again.Goals as goal

pub returns : goal.returns
returns c = text_again
