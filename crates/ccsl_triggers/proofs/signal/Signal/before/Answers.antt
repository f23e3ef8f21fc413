use Rattle.std.proofs.Common.{rules}
use Rattle.ccsl_triggers.proofs.signal.Signal.before.Goals as goal

pub returns-in-One : goal.returns-in-One
returns-in-One c = search rules
