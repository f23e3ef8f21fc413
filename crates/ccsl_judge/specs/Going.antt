-- A trace whose header was read, and the shares of the items that follow it.
use Rattle.std.specs.Prelude.{◌≡◌, ℕ, List, Option, Some, None}
use Rattle.ccsl_base.specs.declared.rows.Row.{Row}
use Rattle.ccsl_edge.specs.World.{State, Told}
use Rattle.ccsl_kernel.specs.Syntax.{System}
use Rattle.ccsl_bind.specs.Collected.{wanted_of}
use Rattle.ccsl_vcd.specs.declared.limits.Limits.{Limits}
use Rattle.ccsl_trace.specs.Feeding.{Feeding, bound_of, Feeds}
use Rattle.ccsl_trace.specs.Traces.{IsReadBy}
use Rattle.ccsl_judge.specs.declared.share.Share.{Share}
use Rattle.ccsl_judge.specs.Divided.{FollowAll}

module _ (told : Told) (K : System) (limits : Limits) (start now : State) where
  -- the shares stand for the rows that the feed has handed out since the start
  pub record Goes (feed : Feeding) (shares : List Share) : Type 0 where
    pub bound : List ℕ
    pub rows : List Row
    pub shows : bound_of feed ≡ Some bound
    pub feeds : Feeds told (wanted_of K) limits start now feed rows
    pub follow : FollowAll K bound rows shares

  -- the trace was read to its end, and the shares stand for all its rows
  pub record HasEnded (row_count : ℕ) (shares : List Share) : Type 0 where
    pub bound : List ℕ
    pub rows : List Row
    pub byte_count : ℕ
    pub is_read : IsReadBy told (wanted_of K) limits start now bound rows row_count byte_count
    pub follow : FollowAll K bound rows shares

  -- it has ended with so many rows, or it goes on
  abbrev pub Stands : Option ℕ → Feeding → List Share → Type 0
  Stands None feed shares = Goes feed shares
  Stands (Some row_count) feed shares = HasEnded row_count shares
