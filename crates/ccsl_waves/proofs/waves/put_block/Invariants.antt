-- The file stays open.
use Rattle.ccsl_waves.specs.Writing.{IsOpen}
use Rattle.ccsl_waves.proofs.waves.put_block.Given as goal

abbrev pub invariant-loop-i : goal.invariant-loop-i
invariant-loop-i g l = IsOpen (g.O.World.state l.out)
