use Rattle.std.proofs.Common.{rules}
use Rattle.ccsl_roundtrip.proofs.ticks.lines.Goals as goal

pub returns : goal.returns
returns c = search rules
