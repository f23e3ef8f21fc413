use Rattle.ccsl_words.proofs.Reading.{some_verdict}
use Rattle.ccsl_words.proofs.laws.text_has_verdict.Goals as goal

pub returns : goal.returns
returns c = some_verdict
