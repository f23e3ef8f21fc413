use Rattle.ccsl_grammar.proofs.Verdict.{one_verdict}
use Rattle.ccsl_grammar.proofs.laws.one_verdict.Goals as goal

pub returns : goal.returns
returns c = one_verdict
