-- The exit status where a command stops.
use Rattle.std.specs.Prelude.{ℕ}
use Rattle.ccsl_edge.specs.declared.stop.Stop.{Stop}
use Rattle.ccsl_edge.specs.declared.stop.Stop.TheVariants.{Fault, Memory}

abbrev pub stop_code : Stop → ℕ
stop_code Fault = 5
stop_code Memory = 6
