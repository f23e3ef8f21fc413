use Rattle.ccsl_periodic.proofs.Filtering.{composed}
use Rattle.ccsl_periodic.proofs.laws.filters_compose.Goals as goal

pub returns : goal.returns
returns c = composed
