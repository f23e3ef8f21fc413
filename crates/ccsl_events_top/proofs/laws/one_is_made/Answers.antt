use Rattle.ccsl_events_top.proofs.OneOutcome.{one-is-made}
use Rattle.ccsl_events_top.proofs.laws.one_is_made.Goals as goal

pub returns : goal.returns
returns c = one-is-made
