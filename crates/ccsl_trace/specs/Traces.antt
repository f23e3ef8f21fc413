-- WHAT READING A TRACE FROM A WORLD SAYS of the bytes that were taken. Where the world tells the bytes left, they are the trace's.
use Rattle.std.specs.Prelude.{◌≡◌, ℕ, ◌+◌, ◌≤◌, List, length, take, true, Some, None, map, IsTrue}
use Rattle.ccsl_base.specs.declared.rows.Row.{Row}
use Rattle.ccsl_edge.specs.declared.slot.Slot.TheVariants.{Trace}
use Rattle.ccsl_edge.specs.World.{State, Told}
use Rattle.ccsl_edge.specs.Calls.{Reads, ReadsThenFails}
use Rattle.ccsl_vcd.specs.declared.fault.VcdFault.{VcdFault}
use Rattle.ccsl_vcd.specs.declared.fault.VcdFault.TheVariants as faults
use Rattle.ccsl_vcd.specs.declared.limits.Limits.{Limits}
use Rattle.ccsl_vcd.specs.Binding.{Wanted}
use Rattle.ccsl_vcd.specs.Reading.{reading}
use Rattle.ccsl_vcd.specs.Rows.{bound_at, recorded}
use Rattle.ccsl_vcd_read.specs.Heading.{NotMemory}
use Rattle.ccsl_vcd_read.specs.Reading.{AreCounts}
use Rattle.ccsl_trace.specs.HeaderEnd.{ends_header}
use Rattle.ccsl_trace.specs.declared.fault.TraceFault.{TraceFault}
use Rattle.ccsl_trace.specs.declared.fault.TraceFault.TheVariants.{Fault, Refused, Memory}
use Rattle.ccsl_base.specs.declared.limits.TheConstants.{PIECE}

-- the bound clocks of a whole trace
abbrev pub clocks_of : Wanted → Limits → List ℕ → List ℕ
clocks_of wanted limits bytes = map (λ b. b.clock) (bound_at (reading wanted limits bytes).place)

-- a whole trace is read without a fault, and these are its bound clocks, all its rows, and its counts
pub record Ends (wanted : Wanted) (limits : Limits) (bytes bound : List ℕ) (rows : List Row) (row_count byte_count : ℕ) : Type 0 where
  pub fine : (reading wanted limits bytes).fault ≡ None
  pub bound_are : bound ≡ clocks_of wanted limits bytes
  pub rows_are : rows ≡ recorded wanted limits bytes
  pub counts : AreCounts wanted limits bytes row_count byte_count

module _ (told : Told) (wanted : Wanted) (limits : Limits) (old new : State) where
  -- it was read to its end
  pub record IsReadBy (bound : List ℕ) (rows : List Row) (row_count byte_count : ℕ) : Type 0 where
    pub bytes : List ℕ
    pub reads : Reads told Trace bytes old new
    pub whole : IsTrue told.left → (old.slot_of Trace).left ≡ bytes
    pub ends : Ends wanted limits bytes bound rows row_count byte_count

  -- a read failed, behind some bytes
  pub record Fails : Type 0 where
    pub bytes : List ℕ
    pub reads : ReadsThenFails told Trace bytes old new

  -- it has that fault, which is no want of memory
  pub record IsRefused (f : VcdFault) : Type 0 where
    pub bytes : List ℕ
    pub reads : Reads told Trace bytes old new
    pub decided : (reading wanted limits bytes).fault ≡ Some f
    pub whole : IsTrue told.left → (reading wanted limits (old.slot_of Trace).left).fault ≡ Some f
    pub is_cause : NotMemory f

  -- the bytes reach at most one piece past the header's end
  pub record IsNearHeader : Type 0 where
    pub bytes : List ℕ
    pub reads : Reads told Trace bytes old new
    pub near : (n : ℕ) → ends_header wanted limits (take n bytes) ≡ true → length bytes ≤ n + PIECE

  abbrev pub IsUnread : TraceFault → Type 0
  IsUnread Fault = Fails
  IsUnread (Refused f) = IsRefused f
  IsUnread Memory = IsNearHeader

-- how a fault of the reader is answered
abbrev pub unread : VcdFault → TraceFault
unread faults.Memory = Memory
unread f = Refused f
