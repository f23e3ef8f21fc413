use Rattle.std.proofs.Common.{rules}
use Rattle.ccsl_kernel.proofs.parts.Parts.accepted.Goals as goal

pub returns : goal.returns
returns c = search rules
