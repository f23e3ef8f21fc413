use Rattle.std.proofs.Common.{rules}
use Rattle.ccsl_pool.proofs.pool.part.Goals as goal

pub returns : goal.returns
returns g c = search rules
