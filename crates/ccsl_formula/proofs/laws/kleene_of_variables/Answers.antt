use Rattle.ccsl_formula.proofs.Variables.{kleene-same}
use Rattle.ccsl_formula.proofs.laws.kleene_of_variables.Goals as goal

pub returns : goal.returns
returns c = kleene-same
