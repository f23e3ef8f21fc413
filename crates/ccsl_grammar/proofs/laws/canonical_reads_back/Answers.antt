use Rattle.ccsl_grammar.proofs.Bare.{canonical_reads_back}
use Rattle.ccsl_grammar.proofs.laws.canonical_reads_back.Goals as goal

pub returns : goal.returns
returns c = canonical_reads_back
