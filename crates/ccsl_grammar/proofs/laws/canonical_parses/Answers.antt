use Rattle.ccsl_grammar.proofs.Canonical.{canonical_parses}
use Rattle.ccsl_grammar.proofs.laws.canonical_parses.Goals as goal

pub returns : goal.returns
returns c = canonical_parses
