use Rattle.std.proofs.Common.{rules}
use Rattle.ccsl_kernel.proofs.accepted.depth.+is_nested.Goals as goal

pub returns-then-is_nested : goal.returns-then-is_nested
returns-then-is_nested t c = search rules
