use Rattle.std.proofs.Common.{rules}
use Rattle.ccsl_causes.proofs.leads.lead_by.Goals as goal

pub returns-then-is_precedence : goal.returns-then-is_precedence
returns-then-is_precedence c = search rules

pub returns-else-constraint-left : goal.returns-else-constraint-left
returns-else-constraint-left c = search rules
