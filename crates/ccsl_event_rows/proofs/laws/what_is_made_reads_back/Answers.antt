use Rattle.ccsl_event_rows.proofs.Made.{what-is-made-reads-back}
use Rattle.ccsl_event_rows.proofs.laws.what_is_made_reads_back.Goals as goal

pub returns : goal.returns
returns c = what-is-made-reads-back
