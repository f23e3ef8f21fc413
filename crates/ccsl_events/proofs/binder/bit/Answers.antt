use Rattle.std.proofs.Common.{rules}
use Rattle.ccsl_events.proofs.binder.bit.Goals as goal

pub returns : goal.returns
returns c = search rules
