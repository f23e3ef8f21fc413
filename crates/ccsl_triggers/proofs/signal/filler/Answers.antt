use Rattle.std.proofs.Common.{rules}
use Rattle.ccsl_triggers.proofs.signal.filler.Goals as goal

pub returns-in-Some-eq49 : goal.returns-in-Some-eq49
returns-in-Some-eq49 c = search rules
