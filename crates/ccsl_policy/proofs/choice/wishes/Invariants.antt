use Rattle.std.proofs.Common.{◌≡◌, map, take}
use Rattle.ccsl_policy.specs.Ranks.{wish}
use Rattle.ccsl_policy.proofs.choice.wishes.Given as goal

abbrev pub invariant-loop-rank : goal.invariant-loop-rank
invariant-loop-rank l = l.wishes.items ≡ map (wish l.policy) (take l.rank-index l.ranked)
