use Rattle.ccsl_events_top.proofs.WholeDump.{header-is-read, body-is-read}
use Rattle.ccsl_events_top.proofs.laws.whole_dump_is_read.Goals as goal

pub returns-clause-header : goal.returns-clause-header
returns-clause-header c = header-is-read

pub returns-clause-body : goal.returns-clause-body
returns-clause-body c = body-is-read
