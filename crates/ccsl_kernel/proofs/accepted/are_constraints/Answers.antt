use Rattle.std.proofs.Common.{rules}
use Rattle.ccsl_kernel.proofs.accepted.are_constraints.Goals as goal

pub returns : goal.returns
returns c = search rules
