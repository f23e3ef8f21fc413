use Rattle.ccsl_formula.proofs.Kleene.{no_false}
use Rattle.ccsl_formula.proofs.laws.no_is_false.Goals as goal

pub returns : goal.returns
returns c = no_false
