use Rattle.std.proofs.Common.{◌≡◌}
use Rattle.ccsl_policy.proofs.Ranking.{ranks_to}
use Rattle.ccsl_policy.proofs.choice.ranked.Given as goal

abbrev pub invariant-loop-clock : goal.invariant-loop-clock
invariant-loop-clock l = l.ranked.items ≡ ranks_to l.words l.clock
