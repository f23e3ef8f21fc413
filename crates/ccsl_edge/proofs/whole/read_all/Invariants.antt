use Rattle.std.proofs.Common.{◌≡◌, ◌+◌, ◌-◌, length, min}
use Rattle.ccsl_edge.proofs.Reading.{IsReading}
use Rattle.ccsl_edge.proofs.whole.read_all.Given as goal

-- all that was taken so far is kept, and the buffer has room for as much as one read may take
abbrev pub invariant-loop-all : goal.invariant-loop-all
invariant-loop-all g l = record {
  reading : IsReading g.W.World.told l.slot l.limit l.all.items (g.W.World.state l.fn.world) (g.W.World.state l.world);
  room : length l.buffer ≡ min l.limit 65535 + 1;
}

abbrev pub decreases-loop-all : goal.decreases-loop-all
decreases-loop-all g l = l.limit - length l.all.items
