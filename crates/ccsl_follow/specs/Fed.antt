-- A feed may be asked for more.
use Rattle.std.specs.Prelude.{List}
use Rattle.ccsl_base.specs.declared.rows.Row.{Row}
use Rattle.ccsl_edge.specs.World.{State, Told}
use Rattle.ccsl_vcd.specs.declared.limits.Limits.{Limits}
use Rattle.ccsl_vcd.specs.Binding.{Wanted}
use Rattle.ccsl_trace.specs.Feeding.{Feeding, Feeds}

-- it has taken some bytes since some state of the world, and handed out some rows
pub record IsFed (told : Told) (now : State) (feed : Feeding) : Type 0 where
  pub wanted : Wanted
  pub limits : Limits
  pub start : State
  pub rows : List Row
  pub feeds : Feeds told wanted limits start now feed rows
