-- The definitions that are left.
use Rattle.std.proofs.Common.{◌-◌, length}
use Rattle.ccsl_state.proofs.definitions.+open_from.Given as goal

abbrev pub decreases-open_from : goal.decreases-open_from
decreases-open_from l = length l.lay.now.system.now.definitions - l.i
