use Rattle.std.proofs.Common.{rules}
use Rattle.ccsl_show_top.proofs.program.shown_behind.Goals as goal

pub returns-clause-ends : goal.returns-clause-ends
returns-clause-ends g c = search rules
