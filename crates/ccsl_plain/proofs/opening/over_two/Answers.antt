use Rattle.std.proofs.Common.{rules}
use Rattle.ccsl_plain.proofs.opening.over_two.Goals as goal

pub returns : goal.returns
returns c = search rules
