use Rattle.std.proofs.Common.{rules}
use Rattle.ccsl_plain.proofs.plain.constraint_formula.Goals as goal

pub returns-in_ok-new-in-PrecedesWithin : goal.returns-in_ok-new-in-PrecedesWithin
returns-in_ok-new-in-PrecedesWithin c = search rules
