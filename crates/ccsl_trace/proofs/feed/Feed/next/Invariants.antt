use Rattle.std.proofs.Common.{◌≡◌, ◌≤◌, List, false, None}
use Rattle.ccsl_base.specs.declared.rows.Row.{Row}
use Rattle.ccsl_edge.specs.World.{State}
use Rattle.ccsl_vcd.specs.declared.limits.Limits.{Limits}
use Rattle.ccsl_vcd.specs.Binding.{Wanted}
use Rattle.ccsl_trace.specs.Feeding.{bound_of, calls_left, Feeds}
use Rattle.ccsl_trace.proofs.feed.Feed.next.Given as goal

-- nothing was handed out since the call began
abbrev pub invariant-loop-next : goal.invariant-loop-next
invariant-loop-next g l = record {
  fresh : l.self.handed ≡ false;
  ended : l.self.ended ≡ None;
  bound : bound_of l.self ≡ bound_of l.fn.self;
  nearer : calls_left l.self ≤ calls_left l.fn.self;
  feeds : (wanted : Wanted) (limits : Limits) (start : State) (rows : List Row)
      → Feeds g.W.World.told wanted limits start (g.W.World.state l.fn.world) l.fn.self rows
      → Feeds g.W.World.told wanted limits start (g.W.World.state l.world) l.self rows;
}

abbrev pub decreases-loop-next : goal.decreases-loop-next
decreases-loop-next g l = calls_left l.self
