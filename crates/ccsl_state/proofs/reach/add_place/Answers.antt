-- A clock names itself.
use Rattle.std.proofs.Common.{arith}
use Rattle.std.proofs.lemmas.Grind.{common_steps}
use Rattle.ccsl_kernel.proofs.Sets.{ticks_in-with_clock}
use Rattle.ccsl_state.proofs.reach.add_place.Goals as goal

pub returns-in-Clock : goal.returns-in-Clock
returns-in-Clock c = grind (arith, common_steps, ticks_in-with_clock)
