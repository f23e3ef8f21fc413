-- What was waiting waits on but for the one that was visited, and those that hear of it wait too.
use Rattle.std.proofs.Common.{arith}
use Rattle.std.proofs.lemmas.Grind.{common_steps}
use Rattle.std.proofs.lemmas.List.{get_or_default}
use Rattle.ccsl_base.proofs.Sets.{ticks_in-filter}
use Rattle.ccsl_state.proofs.follow.enter.Goals as goal

pub returns : goal.returns
returns c = grind (arith, common_steps, get_or_default, ticks_in-filter)
