use Rattle.std.proofs.Common.{rules}
use Rattle.ccsl_refute.proofs.checker.is_no.Goals as goal

pub returns-in-Open : goal.returns-in-Open
returns-in-Open c = search rules
