use Rattle.std.proofs.Common.{rules}
use Rattle.ccsl_formula.proofs.truth3.Truth3.iff.Goals as goal

pub returns-in-No : goal.returns-in-No
returns-in-No c = search rules
