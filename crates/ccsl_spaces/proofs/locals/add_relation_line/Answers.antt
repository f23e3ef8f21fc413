use Rattle.std.proofs.Common.{rules}
use Rattle.ccsl_spaces.proofs.locals.add_relation_line.Goals as goal

pub returns-in_ok-add : goal.returns-in_ok-add
returns-in_ok-add c = search rules
