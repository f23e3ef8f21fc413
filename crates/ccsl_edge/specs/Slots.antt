-- Which slots are read and which are written, and which of them are opened under the name of a file.
use Rattle.ccsl_edge.specs.declared.slot.Slot.{Slot}
use Rattle.ccsl_edge.specs.declared.slot.Slot.TheVariants.{Spec, Trace, Cert, Input, Report, TraceOut, CertOut}

-- bytes are read from it
abbrev pub IsInput : Slot → Type 0
IsInput Spec = Unit {0}
IsInput Trace = Unit {0}
IsInput Cert = Unit {0}
IsInput Input = Unit {0}
IsInput Report = ⊥
IsInput TraceOut = ⊥
IsInput CertOut = ⊥

-- a named file is read through it
abbrev pub IsInputFile : Slot → Type 0
IsInputFile Spec = Unit {0}
IsInputFile Trace = Unit {0}
IsInputFile Cert = Unit {0}
IsInputFile Input = ⊥
IsInputFile Report = ⊥
IsInputFile TraceOut = ⊥
IsInputFile CertOut = ⊥

-- bytes are written to it
abbrev pub IsOutput : Slot → Type 0
IsOutput Spec = ⊥
IsOutput Trace = ⊥
IsOutput Cert = ⊥
IsOutput Input = ⊥
IsOutput Report = Unit {0}
IsOutput TraceOut = Unit {0}
IsOutput CertOut = Unit {0}

-- a named file is written through it
abbrev pub IsOutputFile : Slot → Type 0
IsOutputFile Spec = ⊥
IsOutputFile Trace = ⊥
IsOutputFile Cert = ⊥
IsOutputFile Input = ⊥
IsOutputFile Report = ⊥
IsOutputFile TraceOut = Unit {0}
IsOutputFile CertOut = Unit {0}
