use Rattle.ccsl_words.proofs.Reading.{read-spelling}
use Rattle.ccsl_words.proofs.laws.spelling_reads_back.Goals as goal

pub returns : goal.returns
returns c = read-spelling
