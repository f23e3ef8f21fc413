use Rattle.ccsl_print.proofs.ReadBack.{canonical_text_reads_back}
use Rattle.ccsl_print.proofs.laws.canonical_text_reads_back.Goals as goal

pub returns : goal.returns
returns c = canonical_text_reads_back
