use Rattle.std.proofs.Common.{rules}
use Rattle.ccsl_kernel.proofs.accepted.calls.+is_allowed.Goals as goal

pub returns-then-called-group-2 : goal.returns-then-called-group-2
returns-then-called-group-2 t c = search rules
