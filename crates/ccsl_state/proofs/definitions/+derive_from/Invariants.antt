-- The definitions that are left.
use Rattle.std.proofs.Common.{◌-◌, length}
use Rattle.ccsl_state.proofs.definitions.+derive_from.Given as goal

abbrev pub decreases-derive_from : goal.decreases-derive_from
decreases-derive_from l = length l.lay.now.system.now.definitions - l.i
