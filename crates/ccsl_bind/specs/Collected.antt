-- What a binder stands for.
use Rattle.std.specs.Prelude.{take}
use Rattle.ccsl_kernel.specs.Syntax.{System}
use Rattle.ccsl_vcd.specs.Binding.{Wanted}

-- the written names of a system may be bound, and its declared clocks have to be
abbrev pub wanted_of : System → Wanted
wanted_of K = record { names = take K.written K.names; declared = K.declared }
