use Rattle.std.proofs.Common.{◌+◌, ◌-◌, ◌*◌}
use Rattle.ccsl_pool.proofs.pool.+parts.Given as goal

abbrev pub decreases-start_each : goal.decreases-start_each
decreases-start_each g l = 4 * l.parts

abbrev pub decreases-start_one_of : goal.decreases-start_one_of
decreases-start_one_of g l = 4 * l.parts - 1

abbrev pub decreases-start_one_of-back : goal.decreases-start_one_of-back
decreases-start_one_of-back g l = 4 * l.left + 1
