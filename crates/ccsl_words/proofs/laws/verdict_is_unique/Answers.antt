use Rattle.ccsl_words.proofs.Verdicts.{one_verdict}
use Rattle.ccsl_words.proofs.laws.verdict_is_unique.Goals as goal

pub returns : goal.returns
returns c = one_verdict
