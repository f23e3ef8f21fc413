use Rattle.std.proofs.Common.{rules}
use Rattle.ccsl_show_top.proofs.progress.begins_step.Goals as goal

pub returns-in-len1-up : goal.returns-in-len1-up
returns-in-len1-up c = search rules
