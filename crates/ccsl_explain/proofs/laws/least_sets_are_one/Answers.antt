use Rattle.ccsl_explain.proofs.LeastSets.{one-least}
use Rattle.ccsl_explain.proofs.laws.least_sets_are_one.Goals as goal

pub returns : goal.returns
returns c = one-least
