use Rattle.std.proofs.Common.{rules}
use Rattle.ccsl_show_top.proofs.heard.HeardWorld.write.Goals as goal

pub returns-clause-ok : goal.returns-clause-ok
returns-clause-ok g c = search rules
