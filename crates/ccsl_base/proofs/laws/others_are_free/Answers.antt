use Rattle.ccsl_base.proofs.ReservedWords.{not_reserved}
use Rattle.ccsl_base.proofs.laws.others_are_free.Goals as goal

pub returns : goal.returns
returns c = not_reserved
