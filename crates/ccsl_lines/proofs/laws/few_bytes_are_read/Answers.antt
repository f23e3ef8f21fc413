use Rattle.ccsl_lines.proofs.Taken.{few_bytes_are_read}
use Rattle.ccsl_lines.proofs.laws.few_bytes_are_read.Goals as goal

pub returns : goal.returns
returns c = few_bytes_are_read
