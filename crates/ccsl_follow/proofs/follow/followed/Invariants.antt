-- The feed may be asked for more, and all that was done is reading.
use Rattle.ccsl_edge.specs.Counts.{SameCounts}
use Rattle.ccsl_follow.specs.Fed.{IsFed}
use Rattle.ccsl_follow.specs.OnlyReads.{OnlyReads}
use Rattle.ccsl_follow.proofs.follow.followed.Given as goal

abbrev pub invariant-loop : goal.invariant-loop
invariant-loop g l = record {
  fed : IsFed g.W.World.told (g.W.World.state l.world) l.feed;
  reads : OnlyReads (g.W.World.state l.fn.world) (g.W.World.state l.world);
  calm : SameCounts (g.W.World.state l.fn.world) (g.W.World.state l.world);
}
