use Rattle.ccsl_periodic.proofs.Existing.{has_word_on}
use Rattle.ccsl_periodic.proofs.laws.words_on_words_exist.Goals as goal

pub returns : goal.returns
returns c u v inf_u inf_v = has_word_on u v inf_u inf_v
