use Rattle.ccsl_chain.proofs.Faultless.{elaborated_as}
use Rattle.ccsl_chain.proofs.laws.chains_are_elaborated.Goals as goal

pub returns : goal.returns
returns c = λ n few place. elaborated_as place n few
