-- Why the program stops.
use Rattle.ccsl_vcd.specs.declared.fault.VcdFault.{VcdFault}
use Rattle.ccsl_vcd.specs.declared.fault.VcdFault.TheVariants as faults
use Rattle.ccsl_events_top.specs.declared.stop.Stop.{Stop}
use Rattle.ccsl_events_top.specs.declared.stop.Stop.TheVariants.{Trace, Memory}

-- at a fault of a dump
abbrev pub stop_of : VcdFault → Stop
stop_of faults.Memory = Memory
stop_of f = Trace f
