use Rattle.ccsl_base.proofs.Words.{none-members}
use Rattle.ccsl_base.proofs.members.Members.new.Goals as goal

pub returns-in-None : goal.returns-in-None
returns-in-None c = none-members c.args.words.now c.in-None.ensures.cases
