-- Rows in order.
use Rattle.std.specs.Prelude.{◌≡◌, List, [], ◌∷◌, Bool, true, nat_lt, ◌&&◌}
use Rattle.std.specs.List.{list_all}
use Rattle.ccsl_base.specs.declared.rows.Row.{Row}
use Rattle.ccsl_vcd.specs.Rows.{has_ticks}

-- the time of each row is below those of all rows behind it
abbrev pub ascend : List Row → Bool
ascend [] = true
ascend (r ∷ rs) = list_all (λ q. nat_lt r.time q.time) rs && ascend rs

-- their times ascend strictly, and in each row a clock ticks
pub record AreInOrder (rows : List Row) : Type 0 where
  pub ascending : ascend rows ≡ true
  pub ticking : list_all has_ticks rows ≡ true
