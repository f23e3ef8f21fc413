use Rattle.std.proofs.Common.{rules}
use Rattle.ccsl_triggers.proofs.signal.Signal.set.Goals as goal

pub returns : goal.returns
returns c = search rules
