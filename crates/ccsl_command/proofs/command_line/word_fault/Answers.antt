use Rattle.std.proofs.Common.{rules}
use Rattle.ccsl_command.proofs.command_line.word_fault.Goals as goal

pub returns-in-None : goal.returns-in-None
returns-in-None c = search rules
