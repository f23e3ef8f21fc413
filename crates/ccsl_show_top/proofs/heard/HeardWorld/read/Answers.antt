use Rattle.std.proofs.Common.{rules}
use Rattle.ccsl_show_top.proofs.heard.HeardWorld.read.Goals as goal

pub returns-in_err-count-clause-err : goal.returns-in_err-count-clause-err
returns-in_err-count-clause-err g c = search rules

pub returns-clause-ok : goal.returns-clause-ok
returns-clause-ok g c = search rules
