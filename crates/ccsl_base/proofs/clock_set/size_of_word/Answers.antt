use Rattle.ccsl_base.proofs.Words.{ones-size}
use Rattle.ccsl_base.proofs.clock_set.size_of_word.Goals as goal

pub returns : goal.returns
returns c = ones-size c.args.word c.ranges.word.fits
