use Rattle.std.proofs.Common.{rules}
use Rattle.ccsl_origin.proofs.walk.Walk.is_definition.Goals as goal

pub returns-in-Written-clause-is : goal.returns-in-Written-clause-is
returns-in-Written-clause-is c = search rules

pub returns-in-Written-clause-left : goal.returns-in-Written-clause-left
returns-in-Written-clause-left c = search rules
