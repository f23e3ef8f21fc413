use Rattle.std.proofs.Common.{rules}
use Rattle.ccsl_explain.proofs.refutation.refutation.Goals as goal

pub returns-in-Refuted : goal.returns-in-Refuted
returns-in-Refuted c = search rules
