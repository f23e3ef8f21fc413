-- Where a trace of events may be written.
use Rattle.std.specs.Prelude.{IsTrue}
use Rattle.ccsl_edge.specs.declared.slot.Slot.TheVariants.{TraceOut}
use Rattle.ccsl_edge.specs.World.{State}
use Rattle.ccsl_events_top.specs.declared.sink.Sink.{Sink}
use Rattle.ccsl_events_top.specs.declared.sink.Sink.TheVariants.{Standard, File}

-- standard output always is, and a file once it is open
abbrev pub MayWrite : Sink → State → Type 0
MayWrite Standard world = Unit {0}
MayWrite File world = IsTrue (world.slot_of TraceOut).is_open
