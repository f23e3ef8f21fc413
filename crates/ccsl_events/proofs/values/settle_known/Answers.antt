use Rattle.std.proofs.Common.{rules}
use Rattle.ccsl_events.proofs.values.settle_known.Goals as goal

pub returns : goal.returns
returns c = search rules
