use Rattle.std.proofs.Common.{rules}
use Rattle.ccsl_show_top.proofs.files.is_written.Goals as goal

pub returns-in-explain : goal.returns-in-explain
returns-in-explain c = search rules
