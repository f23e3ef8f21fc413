use Rattle.std.proofs.Common.{rules}
use Rattle.ccsl_expand.proofs.unfold.+unfolding.Goals as goal

pub unfold_line-returns-in_ok-inner-in-Some-clause-items : goal.unfold_line-returns-in_ok-inner-in-Some-clause-items
unfold_line-returns-in_ok-inner-in-Some-clause-items t c = search rules
