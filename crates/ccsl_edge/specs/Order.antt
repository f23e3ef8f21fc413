-- The order of the slots.
use Rattle.std.specs.Prelude.{ℕ}
use Rattle.ccsl_edge.specs.declared.slot.Slot.{Slot}
use Rattle.ccsl_edge.specs.declared.slot.Slot.TheVariants.{Spec, Trace, Cert, Input, Report, TraceOut, CertOut}

-- its place in the order of the slots, from 0
abbrev pub index_of : Slot → ℕ
index_of Spec = 0
index_of Trace = 1
index_of Cert = 2
index_of Input = 3
index_of Report = 4
index_of TraceOut = 5
index_of CertOut = 6
