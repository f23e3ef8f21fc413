use Rattle.std.proofs.Common.{rules}
use Rattle.ccsl_relate.proofs.watched.Related.fails.Goals as goal

pub overflow_add-self-2 : goal.overflow_add-self-2
overflow_add-self-2 c = search rules

pub returns-clause-next : goal.returns-clause-next
returns-clause-next c = search rules
