use Rattle.std.proofs.Common.{rules}
use Rattle.ccsl_faults.proofs.levels.line_height.Goals as goal

pub returns-in-Define : goal.returns-in-Define
returns-in-Define c = search rules
