use Rattle.ccsl_items.proofs.Solutions.{solution_full}
use Rattle.ccsl_items.proofs.laws.solutions_are_full.Goals as goal

pub returns : goal.returns
returns c = solution_full
