use Rattle.ccsl_lex.proofs.Longest.{none_longer}
use Rattle.ccsl_lex.proofs.laws.none_longer.Goals as goal

pub returns : goal.returns
returns c = none_longer
