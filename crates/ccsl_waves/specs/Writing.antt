-- A trace may be written to a world.
use Rattle.std.specs.Prelude.{IsTrue}
use Rattle.ccsl_edge.specs.declared.slot.Slot.TheVariants.{TraceOut}
use Rattle.ccsl_edge.specs.World.{State}

abbrev pub IsOpen : State → Type 0
IsOpen world = IsTrue (world.slot_of TraceOut).is_open
