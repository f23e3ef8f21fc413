use Rattle.ccsl_base.proofs.Words.{is_set-without}
use Rattle.ccsl_base.proofs.clock_set.word_without.Goals as goal

pub returns-clause-bits : goal.returns-clause-bits
returns-clause-bits c i l = is_set-without c.args.word c.args.other i c.ranges.other.fits l
