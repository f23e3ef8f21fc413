use Rattle.std.proofs.Common.{rules}
use Rattle.ccsl_show_top.proofs.progress.Gauge.is_due.Goals as goal

pub returns-then-is_due-clause-due : goal.returns-then-is_due-clause-due
returns-then-is_due-clause-due c = search rules

pub returns-then-is_due-clause-told : goal.returns-then-is_due-clause-told
returns-then-is_due-clause-told c = search rules

pub returns-else-is_due-clause-due : goal.returns-else-is_due-clause-due
returns-else-is_due-clause-due c = search rules

pub returns-else-is_due-clause-told : goal.returns-else-is_due-clause-told
returns-else-is_due-clause-told c = search rules
