-- What reading and writing files does to a world.
use Rattle.ccsl_edge.specs.declared.slot.Slot.{Slot}
use Rattle.ccsl_edge.specs.World.{State, Rose}

-- the count of a slot's faults rose, or stands at its last value
abbrev pub RoseAt : Slot → State → State → Type 0
RoseAt slot old new = Rose (old.slot_of slot).faults (new.slot_of slot).faults
