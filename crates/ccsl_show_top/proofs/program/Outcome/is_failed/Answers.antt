use Rattle.std.proofs.Common.{rules}
use Rattle.ccsl_show_top.proofs.program.Outcome.is_failed.Goals as goal

pub returns : goal.returns
returns c = search rules
