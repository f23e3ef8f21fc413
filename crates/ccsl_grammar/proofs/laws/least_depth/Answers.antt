use Rattle.ccsl_grammar.proofs.Least.{least_depth}
use Rattle.ccsl_grammar.proofs.laws.least_depth.Goals as goal

pub returns : goal.returns
returns c = least_depth
