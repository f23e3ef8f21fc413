-- Where the header of a trace has ended: its body has begun, or a clock was found unbound or ambiguous, and no body follows.
use Rattle.std.specs.Prelude.{List, Bool, true, false, ◌||◌, Option, Some, None, ℕ}
use Rattle.ccsl_vcd.specs.declared.fault.VcdFault.{VcdFault}
use Rattle.ccsl_vcd.specs.declared.fault.VcdFault.TheVariants.{Unbound, Ambiguous}
use Rattle.ccsl_vcd.specs.declared.limits.Limits.{Limits}
use Rattle.ccsl_vcd.specs.Binding.{Wanted}
use Rattle.ccsl_vcd.specs.Places.{Where, header, body}
use Rattle.ccsl_vcd.specs.Reading.{so_far}

abbrev pub is_body : Where → Bool
is_body (header h) = false
is_body (body b) = true

abbrev pub binds_none : Option VcdFault → Bool
binds_none (Some (Unbound clock)) = true
binds_none (Some (Ambiguous clock)) = true
binds_none (Some f) = false
binds_none None = false

-- these bytes of a trace have ended its header
abbrev pub ends_header : Wanted → Limits → List ℕ → Bool
ends_header wanted limits bytes = is_body (so_far wanted limits bytes).place || binds_none (so_far wanted limits bytes).fault
