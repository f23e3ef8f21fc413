-- The definitions that are left.
use Rattle.std.proofs.Common.{◌-◌, length}
use Rattle.ccsl_state.proofs.definitions.+advance_from.Given as goal

abbrev pub decreases-advance_from : goal.decreases-advance_from
decreases-advance_from l = length l.lay.now.system.now.definitions - l.i
