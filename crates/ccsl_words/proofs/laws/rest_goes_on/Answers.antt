use Rattle.ccsl_words.proofs.Letters.{letter-rest}
use Rattle.ccsl_words.proofs.laws.rest_goes_on.Goals as goal

pub returns : goal.returns
returns c = letter-rest
