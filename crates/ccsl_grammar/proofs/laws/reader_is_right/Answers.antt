use Rattle.ccsl_grammar.proofs.Verdict.{reader_is_right}
use Rattle.ccsl_grammar.proofs.laws.reader_is_right.Goals as goal

pub returns : goal.returns
returns c = reader_is_right
