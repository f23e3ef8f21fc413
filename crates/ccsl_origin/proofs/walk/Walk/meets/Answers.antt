use Rattle.std.proofs.Common.{rules}
use Rattle.ccsl_origin.proofs.walk.Walk.meets.Goals as goal

pub returns-clause-found : goal.returns-clause-found
returns-clause-found c = search rules
