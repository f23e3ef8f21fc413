use Rattle.ccsl_words.proofs.Reading.{read_reads, reads_read}
use Rattle.ccsl_words.proofs.laws.word_is_computed.Goals as goal

pub returns : goal.returns
returns c = λ text w. (read_reads text w, reads_read text w)
