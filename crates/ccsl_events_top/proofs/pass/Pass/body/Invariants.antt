use Rattle.std.proofs.Common.{ℕ, List}
use Rattle.ccsl_edge.specs.World.{State}
use Rattle.ccsl_events.specs.Dump.{Plan}
use Rattle.ccsl_events_top.specs.Passing.{InBody, left_for}
use Rattle.ccsl_events_top.specs.Writing.{MayWrite}
use Rattle.ccsl_events_top.proofs.pass.Pass.body.Given as goal

-- the body has not ended, and it may be written
abbrev pub invariant-loop-self : goal.invariant-loop-self
invariant-loop-self g l =
    MayWrite l.sink (g.W.World.state l.world) × ((start : State) (plan : Plan) (head text : List ℕ) →
    InBody g.W.World.told l.fn.sink start (g.W.World.state l.fn.world) plan head text l.fn.self →
    InBody g.W.World.told l.fn.sink start (g.W.World.state l.world) plan head text l.self)

abbrev pub decreases-loop-self : goal.decreases-loop-self
decreases-loop-self g l = left_for l.self
