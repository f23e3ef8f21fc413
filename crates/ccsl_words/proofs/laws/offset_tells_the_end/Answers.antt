use Rattle.ccsl_words.proofs.Letters.{ended-offset_at, offset_at-ended}
use Rattle.ccsl_words.proofs.laws.offset_tells_the_end.Goals as goal

pub returns : goal.returns
returns c = λ w n fin. (ended-offset_at w n fin, offset_at-ended w n fin)
