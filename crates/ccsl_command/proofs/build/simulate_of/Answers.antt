use Rattle.std.proofs.Common.{rules}
use Rattle.ccsl_command.proofs.build.simulate_of.Goals as goal

pub returns-clause-command : goal.returns-clause-command
returns-clause-command c = search rules
