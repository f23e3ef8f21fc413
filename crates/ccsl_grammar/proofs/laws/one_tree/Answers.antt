use Rattle.ccsl_grammar.proofs.Verdict.{one_tree}
use Rattle.ccsl_grammar.proofs.laws.one_tree.Goals as goal

pub returns : goal.returns
returns c = one_tree
