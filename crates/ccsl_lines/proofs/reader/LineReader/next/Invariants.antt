use Rattle.ccsl_lines.specs.Held.{readable}
use Rattle.ccsl_lines.proofs.Reading.{Comes}
use Rattle.ccsl_lines.proofs.reader.LineReader.next.Given as goal

-- the call has come so far
abbrev pub invariant-loop-self : goal.invariant-loop-self
invariant-loop-self g l = Comes g.W.World.told (g.W.World.state l.fn.world) (g.W.World.state l.world) l.fn.self l.self

abbrev pub decreases-loop-self : goal.decreases-loop-self
decreases-loop-self g l = readable l.self.left
