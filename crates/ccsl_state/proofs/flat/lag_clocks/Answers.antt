-- The bits lie in front of the row.
use Rattle.std.proofs.Common.{arith}
use Rattle.std.proofs.lemmas.Grind.{common_steps}
use Rattle.ccsl_state.proofs.Frame.{lag_front}
use Rattle.ccsl_state.proofs.flat.lag_clocks.Goals as goal

pub returns-clause-tick : goal.returns-clause-tick
returns-clause-tick c = grind (arith, common_steps, lag_front)

pub returns-clause-node : goal.returns-clause-node
returns-clause-node c = grind (arith, common_steps, lag_front)

pub returns-clause-dead : goal.returns-clause-dead
returns-clause-dead c = grind (arith, common_steps, lag_front)
