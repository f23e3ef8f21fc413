use Rattle.ccsl_policy.proofs.First.{unique}
use Rattle.ccsl_policy.proofs.laws.the_chosen_set_is_one.Goals as goal

pub returns : goal.returns
returns c = unique
