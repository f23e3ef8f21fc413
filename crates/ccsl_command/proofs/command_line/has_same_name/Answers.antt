use Rattle.std.proofs.Common.{rules}
use Rattle.ccsl_command.proofs.command_line.has_same_name.Goals as goal

pub returns-else-have_same_value-2 : goal.returns-else-have_same_value-2
returns-else-have_same_value-2 c = search rules
