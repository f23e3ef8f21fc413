use Rattle.ccsl_grammar.proofs.Spelled.{canonical_keeps}
use Rattle.ccsl_grammar.proofs.laws.canonical_keeps.Goals as goal

pub returns : goal.returns
returns c = canonical_keeps
