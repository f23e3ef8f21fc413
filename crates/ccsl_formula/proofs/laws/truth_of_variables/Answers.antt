use Rattle.ccsl_formula.proofs.Variables.{truth-same}
use Rattle.ccsl_formula.proofs.laws.truth_of_variables.Goals as goal

pub returns : goal.returns
returns c = truth-same
