use Rattle.std.proofs.Common.{arith}
use Rattle.std.proofs.lemmas.Grind.{common_steps}
use Rattle.ccsl_triggers.proofs.watch.Watch.is_record_of.Goals as goal

pub returns-in-Record-clause-happens : goal.returns-in-Record-clause-happens
returns-in-Record-clause-happens c = grind (arith, common_steps)
