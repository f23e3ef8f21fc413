use Rattle.std.proofs.Common.{rules}
use Rattle.ccsl_simulate.proofs.world.simulate.Goals as goal

pub returns-clause-undone : goal.returns-clause-undone
returns-clause-undone g c = search rules
