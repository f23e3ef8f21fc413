use Rattle.std.proofs.Common.{rules}
use Rattle.ccsl_kernel.proofs.accepted.cells.cells_of_two.Goals as goal

pub returns-in-Then : goal.returns-in-Then
returns-in-Then c = search rules
