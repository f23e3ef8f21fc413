use Rattle.ccsl_formula.proofs.Kleene.{yes_true}
use Rattle.ccsl_formula.proofs.laws.yes_is_true.Goals as goal

pub returns : goal.returns
returns c = yes_true
