-- The arguments that are left.
use Rattle.std.proofs.Common.{length}
use Rattle.ccsl_state.proofs.reach.+add_arguments.Given as goal

abbrev pub decreases-add_arguments : goal.decreases-add_arguments
decreases-add_arguments l = length l.args.now
