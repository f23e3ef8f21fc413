use Rattle.std.proofs.Common.{rules}
use Rattle.ccsl_guide.proofs.watches.Watches.watch.Goals as goal

pub enter-requires-clause-there : goal.enter-requires-clause-there
enter-requires-clause-there c = search rules

pub enter-requires-2-clause-there : goal.enter-requires-2-clause-there
enter-requires-2-clause-there c = search rules
