use Rattle.std.proofs.Common.{rules}
use Rattle.ccsl_causes.proofs.counts.Counts.new.Goals as goal

pub returns : goal.returns
returns c = search rules
