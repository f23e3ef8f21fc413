use Rattle.ccsl_words.proofs.Letters.{letter_turn}
use Rattle.ccsl_words.proofs.laws.period_repeats.Goals as goal

pub returns : goal.returns
returns c = letter_turn
