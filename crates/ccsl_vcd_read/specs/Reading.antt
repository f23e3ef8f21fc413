-- What a reader stands for.
use Rattle.std.specs.Prelude.{◌≡◌, ℕ, ◌≤◌, ◌<◌, List, ◌++◌, length, take, Bool, true, false, Option, Some, None, ◌+◌, ◌-◌}
use Rattle.ccsl_base.specs.Rows.{RowList}
use Rattle.ccsl_base.specs.declared.rows.Row.{Row}
use Rattle.ccsl_vcd_lex.specs.Tokens.{tokens, settled, heard}
use Rattle.ccsl_vcd_lex.specs.LongTokens.{first_long}
use Rattle.ccsl_vcd.specs.declared.fault.VcdFault.{VcdFault}
use Rattle.ccsl_vcd.specs.declared.limits.Limits.{Limits}
use Rattle.ccsl_vcd.specs.Binding.{Wanted}
use Rattle.ccsl_vcd.specs.Places as p
use Rattle.ccsl_vcd.specs.Reading.{story, so_far, reading}
use Rattle.ccsl_vcd.specs.Rows.{recorded}
use Rattle.ccsl_vcd.specs.Completed.{complete, done}
use Rattle.ccsl_vcd_read.specs.declared.stage.Stage.{Stage}
use Rattle.ccsl_vcd_read.specs.Heading.{Caused, NotMemory}
use Rattle.ccsl_vcd_read.specs.Passing.{Passing, Lexes}
use Rattle.ccsl_vcd_read.specs.Staging.{Pictures, shown, shown_at, is_body}

-- a reader as contracts see it
pub record Reading : Type 0 where
  pub lexing : Passing
  pub limits : Limits
  -- how many bytes were taken, and how many rows given out
  pub taken : ℕ
  pub rows : ℕ
  pub stage : Stage
  pub fault : Option VcdFault

-- rows are given out in the body, and each takes a byte
abbrev pub FewRows : Bool → ℕ → ℕ → Type 0
FewRows false rows taken = rows ≡ 0
FewRows true rows taken = rows < taken

-- the bound clocks as a reader shows them, once it has bound them
abbrev pub shows : Reading → Option (List ℕ)
shows v = shown v.stage

pub record Running (wanted : Wanted) (v : Reading) (bytes : List ℕ) : Type 0 where
  pub lexes : Lexes v.lexing bytes
  pub short : first_long (tokens bytes) ≡ None
  pub taken : v.taken ≡ length bytes
  pub within : length bytes ≤ v.limits.bytes
  pub pictures : Pictures wanted v.limits v.stage (story wanted v.limits (settled bytes))
  pub rows : v.rows ≡ length (complete (story wanted v.limits (settled bytes)))
  pub few : FewRows (is_body v.stage) v.rows v.taken

-- some of the bytes decide the fault, and the bound clocks stay
pub record Stopped (wanted : Wanted) (v : Reading) (f : VcdFault) (bytes : List ℕ) : Type 0 where
  pub fault : (so_far wanted v.limits bytes).fault ≡ Some f
  pub shown : shown v.stage ≡ shown_at (so_far wanted v.limits bytes).place

-- the bytes that a reader has taken, or some of which decide its fault
abbrev pub Stands : Option VcdFault → Wanted → Reading → List ℕ → Type 0
Stands None wanted v bytes = Running wanted v bytes
Stands (Some f) wanted v bytes = Caused f (Stopped wanted v f bytes)

unfoldable pub StandsFor : Wanted → Reading → List ℕ → Type 0
StandsFor wanted v bytes = Stands v.fault wanted v bytes

-- the rows that were pushed are those by which one list of rows is longer than another
pub record Pushes (before after old new : List Row) : Type 0 where
  pub pushed : List Row
  pub rows : after ≡ before ++ pushed
  pub block : new ≡ old ++ pushed

-- behind some more bytes a block still has room for a row
abbrev pub HadRoom : Wanted → Limits → List ℕ → List ℕ → RowList → Type 0
HadRoom wanted limits bytes more out =
    length out.rows + length (done wanted limits (bytes ++ more)) < out.room + length (done wanted limits bytes)

-- where the block is full, the last of the bytes that were taken filled it
abbrev pub FilledByLast : Reading → List ℕ → ℕ → RowList → RowList → Type 0
FilledByLast v piece n old new =
    length new.rows ≡ new.room → (wanted : Wanted) (bytes : List ℕ) → StandsFor wanted v bytes →
    HadRoom wanted v.limits bytes (take (n - 1) piece) old

-- Some bytes from the front of a piece decide the fault. The rows that were pushed are those that they complete.
pub record Decides (wanted : Wanted) (limits : Limits) (bytes piece : List ℕ) (f : VcdFault) (old new : List Row) : Type 0 where
  pub front : List ℕ
  pub back : List ℕ
  pub is_front : piece ≡ front ++ back
  pub fault : (so_far wanted limits (bytes ++ front)).fault ≡ Some f
  pub pushes : Pushes (done wanted limits bytes) (done wanted limits (bytes ++ front)) old new

-- whether these bytes have ended the header, and bound its clocks
abbrev pub is_past : p.Where → Bool
is_past (p.header h) = false
is_past (p.body b) = true

abbrev pub past_header : Wanted → Limits → List ℕ → Bool
past_header wanted limits bytes = is_past (so_far wanted limits bytes).place

-- once these bytes have ended the header, the fault is no want of memory
abbrev pub IsCalm : Wanted → Limits → List ℕ → VcdFault → Type 0
IsCalm wanted limits bytes f = past_header wanted limits bytes ≡ true → NotMemory f

-- The header ends at the last of some bytes of a piece.
pub record EndsHeader (wanted : Wanted) (limits : Limits) (bytes piece : List ℕ) (n : ℕ) : Type 0 where
  pub first : past_header wanted limits bytes ≡ false
  pub some : 0 < n
  pub before : past_header wanted limits (bytes ++ take (n - 1) piece) ≡ false
  pub now : past_header wanted limits (bytes ++ take n piece) ≡ true

-- whether it ends there, or it is as before
abbrev pub HeaderSo : Bool → Wanted → Limits → List ℕ → List ℕ → ℕ → Type 0
HeaderSo true wanted limits bytes piece n = EndsHeader wanted limits bytes piece n
HeaderSo false wanted limits bytes piece n = past_header wanted limits (bytes ++ take n piece) ≡ past_header wanted limits bytes

-- a reader that runs, and a block with room for a row
pub record CanTake (v : Reading) (out : RowList) : Type 0 where
  pub runs : v.fault ≡ None
  pub room : length out.rows < out.room
  pub stands : (wanted : Wanted) × (bytes : List ℕ) × StandsFor wanted v bytes

-- n bytes of a piece were taken, behind bytes of a trace for which the reader stood
pub record Took (wanted : Wanted) (old new : Reading) (bytes piece : List ℕ) (n : ℕ) (ended : Bool) (before after : RowList) : Type 0 where
  pub stands : StandsFor wanted new (bytes ++ take n piece)
  pub pushes : Pushes (done wanted old.limits bytes) (done wanted old.limits (bytes ++ take n piece)) before.rows after.rows
  pub header : HeaderSo ended wanted old.limits bytes piece n
  pub filled : length after.rows ≡ after.room → HadRoom wanted old.limits bytes (take (n - 1) piece) before

-- n bytes of a piece were taken, and the reader runs on
pub record Takes (old new : Reading) (piece : List ℕ) (n : ℕ) (ended : Bool) (before after : RowList) : Type 0 where
  pub within : n ≤ length piece
  pub runs : new.fault ≡ None
  pub limits : new.limits ≡ old.limits
  pub room : after.room ≡ before.room
  pub took : (wanted : Wanted) (bytes : List ℕ) → StandsFor wanted old bytes → Took wanted old new bytes piece n ended before after

-- The reader stops: bytes of the piece decide the fault, unless it is want of memory, as it never is in a body.
-- No row was pushed, and no clock was bound.
pub record Stops (old new : Reading) (piece : List ℕ) (f : VcdFault) (before after : RowList) : Type 0 where
  pub decides : Caused f ((wanted : Wanted) (bytes : List ℕ) → StandsFor wanted old bytes → Decides wanted old.limits bytes piece f before.rows after.rows)
  pub calm : is_body old.stage ≡ true → NotMemory f
  pub fault : new.fault ≡ Some f
  pub limits : new.limits ≡ old.limits
  pub unpushed : after ≡ before
  pub shows : shown new.stage ≡ shown old.stage
  pub still : (wanted : Wanted) (bytes : List ℕ) → StandsFor wanted old bytes → StandsFor wanted new (bytes ++ piece)

-- the last token of a trace was heard
pub record AtEnd (wanted : Wanted) (v new : Reading) (bytes : List ℕ) (before after : List Row) : Type 0 where
  pub pictures : Pictures wanted v.limits new.stage (story wanted v.limits (heard bytes))
  pub pushes : Pushes (done wanted v.limits bytes) (complete (story wanted v.limits (heard bytes))) before after
  pub rows : new.rows ≡ length (complete (story wanted v.limits (heard bytes)))
  pub taken : v.taken ≡ length bytes
  pub within : length bytes ≤ v.limits.bytes

-- or it was refused
pub record Refused (wanted : Wanted) (v : Reading) (bytes : List ℕ) (f : VcdFault) : Type 0 where
  pub fault : (reading wanted v.limits bytes).fault ≡ Some f
  pub rows : complete (reading wanted v.limits bytes) ≡ done wanted v.limits bytes

-- what the end of a trace counts
pub record AreCounts (wanted : Wanted) (limits : Limits) (bytes : List ℕ) (rows count : ℕ) : Type 0 where
  pub rows_are : rows ≡ length (recorded wanted limits bytes)
  pub bytes_are : count ≡ length bytes
