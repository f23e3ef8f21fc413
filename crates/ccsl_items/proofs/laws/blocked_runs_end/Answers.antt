use Rattle.ccsl_items.proofs.Solutions.{blocked_ends}
use Rattle.ccsl_items.proofs.laws.blocked_runs_end.Goals as goal

pub returns : goal.returns
returns c = blocked_ends
