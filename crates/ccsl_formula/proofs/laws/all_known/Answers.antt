use Rattle.ccsl_formula.proofs.Variables.{kleene-known}
use Rattle.ccsl_formula.proofs.laws.all_known.Goals as goal

pub returns : goal.returns
returns c = kleene-known
