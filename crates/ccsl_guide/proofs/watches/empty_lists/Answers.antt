use Rattle.std.proofs.Common.{rules}
use Rattle.ccsl_guide.proofs.watches.empty_lists.Goals as goal

pub returns-clause-places : goal.returns-clause-places
returns-clause-places c = search rules
