use Rattle.std.proofs.Common.{rules}
use Rattle.ccsl_pool.proofs.pool.fn.start_one_of.front.Goals as goal

pub returns : goal.returns
returns g c = search rules
