use Rattle.std.proofs.Common.{rules}
use Rattle.ccsl_state.proofs.node.two_dead.Goals as goal

pub returns-then-y : goal.returns-then-y
returns-then-y c = search rules

pub returns-else-y : goal.returns-else-y
returns-else-y c = search rules
