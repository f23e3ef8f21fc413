use Rattle.std.proofs.Common.{rules}
use Rattle.ccsl_expand.proofs.system.push_if_constraint.Goals as goal

pub returns-in_ok-push : goal.returns-in_ok-push
returns-in_ok-push c = search rules
