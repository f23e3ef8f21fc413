use Rattle.std.proofs.Common.{rules}
use Rattle.ccsl_periodic.proofs.Filtering.{composed}
use Rattle.ccsl_periodic.proofs.filtered.on.Goals as goal

pub returns-in-Ok-clause-composes : goal.returns-in-Ok-clause-composes
returns-in-Ok-clause-composes c = composed c.args.left.now c.args.right.now c.in-Ok.word c.in-Ok.ensures.word

pub returns-then-len-clause-cause : goal.returns-then-len-clause-cause
returns-then-len-clause-cause c = search rules
