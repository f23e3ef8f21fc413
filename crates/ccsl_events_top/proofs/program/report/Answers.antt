use Rattle.std.proofs.Common.{rules}
use Rattle.ccsl_events_top.proofs.program.report.Goals as goal

pub returns-after-is_err : goal.returns-after-is_err
returns-after-is_err g c = search rules
