use Rattle.ccsl_chain.proofs.Accepted.{accepted}
use Rattle.ccsl_chain.proofs.laws.chains_are_accepted.Goals as goal

pub returns : goal.returns
returns c = accepted
