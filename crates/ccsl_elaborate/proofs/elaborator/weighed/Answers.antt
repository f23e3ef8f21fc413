use Rattle.std.proofs.Common.{rules}
use Rattle.ccsl_elaborate.proofs.elaborator.weighed.Goals as goal

pub returns-then-clocks-gt-MAX_CLOCKS-clause-refused : goal.returns-then-clocks-gt-MAX_CLOCKS-clause-refused
returns-then-clocks-gt-MAX_CLOCKS-clause-refused c = search rules
