use Rattle.std.proofs.Common.{rules}
use Rattle.ccsl_report.proofs.fault.trace_parts.Goals as goal

pub returns-in-TimeBack-clause-text : goal.returns-in-TimeBack-clause-text
returns-in-TimeBack-clause-text c = search rules
