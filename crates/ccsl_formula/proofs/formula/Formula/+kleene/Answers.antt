use Rattle.std.proofs.Common.{rules}
use Rattle.ccsl_formula.proofs.formula.Formula.+kleene.Goals as goal

pub returns-in-Open : goal.returns-in-Open
returns-in-Open t c = search rules
