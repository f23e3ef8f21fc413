use Rattle.std.proofs.Common.{length}
use Rattle.ccsl_edge.proofs.Writing.{IsAdding}
use Rattle.ccsl_edge.proofs.whole.write_all.Given as goal

abbrev pub invariant-loop-rest : goal.invariant-loop-rest
invariant-loop-rest g l =
    IsAdding g.W.World.told l.slot l.fn.bytes l.rest (g.W.World.state l.fn.world) (g.W.World.state l.world)

abbrev pub decreases-loop-rest : goal.decreases-loop-rest
decreases-loop-rest g l = length l.rest
