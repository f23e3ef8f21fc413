use Rattle.std.proofs.Common.{vec_len}
use Rattle.ccsl_guide.proofs.guide.next_forced.Given as goal

abbrev pub decreases-loop-next : goal.decreases-loop-next
decreases-loop-next l = vec_len l.forced
