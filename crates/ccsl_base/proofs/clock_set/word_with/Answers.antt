use Rattle.ccsl_base.proofs.Words.{bit-put_same, bit-put_other}
use Rattle.ccsl_base.proofs.clock_set.word_with.Goals as goal

pub returns-clause-here : goal.returns-clause-here
returns-clause-here c = bit-put_same c.args.word c.args.place c.args.one c.requires

pub returns-clause-others : goal.returns-clause-others
returns-clause-others c = bit-put_other c.args.word c.args.place c.args.one c.requires
