use Rattle.ccsl_rules.proofs.Counting.{constraints-total, clocks-total}
use Rattle.ccsl_rules.proofs.laws.counts_are_lengths.Goals as goal

pub returns : goal.returns
returns c = λ library file. (constraints-total library file, clocks-total library file)
