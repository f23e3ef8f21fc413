use Rattle.std.proofs.Common.{rules}
use Rattle.ccsl_kernel.proofs.accepted.known.is_clock.Goals as goal

pub returns-in-Clock : goal.returns-in-Clock
returns-in-Clock c = search rules
