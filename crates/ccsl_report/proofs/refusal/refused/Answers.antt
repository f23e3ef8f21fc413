use Rattle.std.proofs.Common.{rules}
use Rattle.ccsl_report.proofs.refusal.refused.Goals as goal

pub returns-in-Unknown : goal.returns-in-Unknown
returns-in-Unknown c = search rules
