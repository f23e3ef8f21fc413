-- What a feed stands for, and what it hands out.
use Rattle.std.specs.Prelude.{◌≡◌, ℕ, ◌+◌, ◌-◌, ◌*◌, ◌<◌, ◌≤◌, ◌^◌, min, List, [], ◌++◌, length, Bool, true, false, Option, Some, None, IsTrue}
use Rattle.ccsl_base.specs.declared.limits.TheConstants.{BLOCK_ROWS}
use Rattle.ccsl_base.specs.declared.rows.Row.{Row}
use Rattle.ccsl_base.specs.Rows.{RowList}
use Rattle.ccsl_edge.specs.declared.slot.Slot.TheVariants.{Trace}
use Rattle.ccsl_edge.specs.World.{State, Told}
use Rattle.ccsl_edge.specs.Calls.{Reads}
use Rattle.ccsl_vcd.specs.declared.limits.Limits.{Limits}
use Rattle.ccsl_vcd.specs.Binding.{Wanted}
use Rattle.ccsl_vcd.specs.Completed.{done}
use Rattle.ccsl_vcd_read.specs.declared.reader.Counts.{Counts}
use Rattle.ccsl_vcd_read.specs.Reading.{Reading, StandsFor, shows}
use Rattle.ccsl_trace.specs.declared.next.Next.{Next}
use Rattle.ccsl_trace.specs.declared.next.Next.TheVariants.{Bound, Rows, Ended}
use Rattle.ccsl_base.specs.declared.limits.TheConstants.{PIECE}
use Rattle.ccsl_trace.specs.Traces.{Ends, IsReadBy, IsNearHeader}

-- a feed as contracts see it
pub record Feeding : Type 0 where
  pub reading : Reading
  -- the bytes that were read and that the reader has not taken
  pub pending : List ℕ
  pub block : RowList
  -- the rows of the block were handed out
  pub handed : Bool
  -- the counts of a trace that has ended, and whose end ended the header
  pub ended : Option Counts

-- the bound clocks, once they were handed out
abbrev pub bound_of : Feeding → Option (List ℕ)
bound_of feed = shows feed.reading

-- the rows of the block that are still to be handed out
abbrev pub waiting_in : Bool → List Row → List Row
waiting_in true block = []
waiting_in false block = block

-- how many bytes the reader may still take, and one more
abbrev pub left_of : Feeding → ℕ
left_of feed = feed.reading.limits.bytes + 1 - feed.reading.taken

-- a bound on the calls that are left: each takes bytes, or hands out rows that wait, or tells the end
abbrev pub calls_left_from : Option Counts → Feeding → ℕ
calls_left_from None feed = 1 + 2 * left_of feed + min 1 (length (waiting_in feed.handed feed.block.rows))
calls_left_from (Some n) feed = 0

abbrev pub calls_left : Feeding → ℕ
calls_left feed = calls_left_from feed.ended feed

-- each call but the last brings the end nearer
abbrev pub Nears : Next → Feeding → Feeding → Type 0
Nears Bound old new = calls_left new < calls_left old
Nears Rows old new = calls_left new < calls_left old
Nears (Ended n) old new = Unit {0}

-- the reader has taken the bytes but for the pending ones, and the rows that they complete were handed out or wait in the block
pub record Runs (wanted : Wanted) (limits : Limits) (bytes : List ℕ) (feed : Feeding) (rows : List Row) : Type 0 where
  pub taken : List ℕ
  pub all : bytes ≡ taken ++ feed.pending
  pub few : length feed.pending ≤ PIECE
  pub stands : StandsFor wanted feed.reading taken
  pub runs : feed.reading.fault ≡ None
  pub limits_are : feed.reading.limits ≡ limits
  pub rows_are : done wanted limits taken ≡ rows ++ waiting_in feed.handed feed.block.rows
  pub room : feed.block.room ≡ BLOCK_ROWS

-- the bytes are the whole trace, whose bound clocks are known and whose rows all wait in the block
pub record HasEnded (told : Told) (wanted : Wanted) (limits : Limits) (start : State) (bytes : List ℕ) (feed : Feeding) (rows : List Row)
    (n : Counts) : Type 0 where
  pub none : rows ≡ []
  pub bound : List ℕ
  pub shows : bound_of feed ≡ Some bound
  pub whole : IsTrue told.left → (start.slot_of Trace).left ≡ bytes
  pub ends : Ends wanted limits bytes bound feed.block.rows n.rows n.bytes
  pub few : length feed.block.rows < 2 ^ 64

module _ (told : Told) (wanted : Wanted) (limits : Limits) (start now : State) where
  abbrev pub Holds : Option Counts → List ℕ → Feeding → List Row → Type 0
  Holds None bytes feed rows = Runs wanted limits bytes feed rows
  Holds (Some n) bytes feed rows = HasEnded told wanted limits start bytes feed rows n

  -- A feed has taken these bytes since that state of the world, and handed out these rows.
  pub record Feeds (feed : Feeding) (rows : List Row) : Type 0 where
    pub bytes : List ℕ
    pub reads : Reads told Trace bytes start now
    pub small : limits.bytes < 2 ^ 64
    pub holds : Holds feed.ended bytes feed rows

  -- The header has just ended: its clocks are bound, and there were no rows before. At most a piece past its end was read.
  pub record GivesBound (before : Option (List ℕ)) (feed : Feeding) (rows : List Row) : Type 0 where
    pub waited : before ≡ None
    pub none : rows ≡ []
    pub bound : List ℕ
    pub shows : bound_of feed ≡ Some bound
    pub near : IsNearHeader told wanted limits start now
    pub feeds : Feeds feed []

  -- A full block of rows follows those before.
  pub record GivesRows (before : Option (List ℕ)) (feed : Feeding) (rows : List Row) : Type 0 where
    pub bound : List ℕ
    pub known : before ≡ Some bound
    pub shows : bound_of feed ≡ Some bound
    pub full : length feed.block.rows ≡ BLOCK_ROWS
    pub few : length rows + length feed.block.rows < 2 ^ 64
    pub feeds : Feeds feed (rows ++ feed.block.rows)

  -- The trace has ended, and the rows of the block are its last.
  pub record GivesEnd (before : Option (List ℕ)) (feed : Feeding) (rows : List Row) (n : Counts) : Type 0 where
    pub bound : List ℕ
    pub known : before ≡ Some bound
    pub shows : bound_of feed ≡ Some bound
    pub few : length rows + length feed.block.rows < 2 ^ 64
    pub is_read : IsReadBy told wanted limits start now bound (rows ++ feed.block.rows) n.rows n.bytes

  -- what a feed hands out, by the bound clocks before the call, the feed after it and the rows before it
  abbrev pub Gives : Next → Option (List ℕ) → Feeding → List Row → Type 0
  Gives Bound before feed rows = GivesBound before feed rows
  Gives Rows before feed rows = GivesRows before feed rows
  Gives (Ended n) before feed rows = GivesEnd before feed rows n
