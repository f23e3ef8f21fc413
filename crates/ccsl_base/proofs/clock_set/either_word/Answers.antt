use Rattle.ccsl_base.proofs.Words.{is_set-or}
use Rattle.ccsl_base.proofs.clock_set.either_word.Goals as goal

pub returns : goal.returns
returns c i = is_set-or c.args.word c.args.other i
