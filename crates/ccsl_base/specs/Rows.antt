-- What contracts see of a block.
use Rattle.std.specs.Prelude.{ℕ, List}
use Rattle.ccsl_base.specs.declared.rows.Row.{Row}

pub record RowList : Type 0 where
  -- the rows so far, in order
  pub rows : List Row
  -- how many there may be
  pub room : ℕ
