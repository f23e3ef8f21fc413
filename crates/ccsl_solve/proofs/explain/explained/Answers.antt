use Rattle.std.proofs.Common.{rules}
use Rattle.ccsl_solve.proofs.explain.explained.Goals as goal

pub returns-in-Open-clause-enough : goal.returns-in-Open-clause-enough
returns-in-Open-clause-enough c = search rules
