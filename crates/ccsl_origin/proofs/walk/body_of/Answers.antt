use Rattle.std.proofs.Common.{rules}
use Rattle.ccsl_origin.proofs.walk.body_of.Goals as goal

pub returns-in-Some : goal.returns-in-Some
returns-in-Some c = search rules
