use Rattle.ccsl_edge.specs.World.{State}
use Rattle.ccsl_kernel.specs.Syntax.{System}
use Rattle.ccsl_vcd.specs.declared.limits.Limits.{Limits}
use Rattle.ccsl_trace.specs.Feeding.{calls_left}
use Rattle.ccsl_certify.specs.Replaying.{Goes}
use Rattle.ccsl_certify.proofs.trace.Replaying.take_all.Given as goal

-- what stood at the start still stands
abbrev pub invariant-loop-rows : goal.invariant-loop-rows
invariant-loop-rows g l =
    (K : System) (limits : Limits) (start : State) → Goes g.W.World.told K limits start (g.W.World.state l.fn.world) l.fn.self.feed l.fn.self.follower →
    Goes g.W.World.told K limits start (g.W.World.state l.world) l.self.feed l.self.follower

abbrev pub decreases-loop-rows : goal.decreases-loop-rows
decreases-loop-rows g l = calls_left l.self.feed
