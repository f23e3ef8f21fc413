-- It goes down the expression.
use Rattle.ccsl_state.proofs.reach.+add_named.Given as goal

abbrev pub decreases-add_named : goal.decreases-add_named
decreases-add_named l = goal.size-add_named l
