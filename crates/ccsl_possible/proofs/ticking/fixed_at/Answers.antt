use Rattle.std.proofs.Common.{rules}
use Rattle.ccsl_possible.proofs.ticking.fixed_at.Goals as goal

pub returns : goal.returns
returns c = search rules
