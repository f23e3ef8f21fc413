use Rattle.std.proofs.Common.{rules}
use Rattle.ccsl_event_file.proofs.statement.Moment.trigger.Goals as goal

pub returns-in-Fall : goal.returns-in-Fall
returns-in-Fall c = search rules
