use Rattle.ccsl_edge.specs.World.{State}
use Rattle.ccsl_events_top.specs.declared.sink.Sink.{Sink}
use Rattle.ccsl_events_top.specs.Passing.{InHeader, left_for}
use Rattle.ccsl_events_top.proofs.pass.Pass.header.Given as goal

-- the header has not ended
abbrev pub invariant-loop-self : goal.invariant-loop-self
invariant-loop-self g l =
    (sink : Sink) (start : State) → InHeader g.W.World.told sink start (g.W.World.state l.fn.world) l.fn.self →
    InHeader g.W.World.told sink start (g.W.World.state l.world) l.self

abbrev pub decreases-loop-self : goal.decreases-loop-self
decreases-loop-self g l = left_for l.self
