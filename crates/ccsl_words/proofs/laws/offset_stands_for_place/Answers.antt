use Rattle.ccsl_words.proofs.Letters.{letter-offset_at}
use Rattle.ccsl_words.proofs.laws.offset_stands_for_place.Goals as goal

pub returns : goal.returns
returns c = letter-offset_at
