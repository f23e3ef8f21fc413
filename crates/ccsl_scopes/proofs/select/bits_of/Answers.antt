use Rattle.std.proofs.Common.{rules}
use Rattle.ccsl_scopes.proofs.select.bits_of.Goals as goal

pub returns-then-high-low : goal.returns-then-high-low
returns-then-high-low c = search rules
