use Rattle.std.proofs.Common.{rules}
use Rattle.ccsl_top.proofs.periodic.periodic.Goals as goal

pub returns-clause-reply : goal.returns-clause-reply
returns-clause-reply c = search rules
