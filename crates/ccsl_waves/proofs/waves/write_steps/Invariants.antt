-- The feed may be asked for more, the file stays open, and of the trace's world all that was done is reading.
use Rattle.ccsl_edge.specs.Counts.{SameCounts}
use Rattle.ccsl_follow.specs.Fed.{IsFed}
use Rattle.ccsl_follow.specs.OnlyReads.{OnlyReads}
use Rattle.ccsl_waves.specs.Writing.{IsOpen}
use Rattle.ccsl_waves.proofs.waves.write_steps.Given as goal

abbrev pub invariant-loop : goal.invariant-loop
invariant-loop g l = record {
  fed : IsFed g.W.World.told (g.W.World.state l.world) l.feed;
  opened : IsOpen (g.O.World.state l.out);
  reads : OnlyReads (g.W.World.state l.fn.world) (g.W.World.state l.world);
  calm : SameCounts (g.W.World.state l.fn.world) (g.W.World.state l.world);
}
