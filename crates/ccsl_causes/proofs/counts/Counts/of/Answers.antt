use Rattle.std.proofs.Common.{rules}
use Rattle.ccsl_causes.proofs.counts.Counts.of.Goals as goal

pub returns-in-Some : goal.returns-in-Some
returns-in-Some c = search rules
