-- What the steps of a feed do between two calls of its caller.
use Rattle.std.specs.Prelude.{◌≡◌, ℕ, ◌+◌, ◌≤◌, ◌<◌, ◌^◌, List, [], ◌++◌, length, take, Bool, true, false, Option, Some, None}
use Rattle.ccsl_base.specs.declared.rows.Row.{Row}
use Rattle.ccsl_edge.specs.World.{State, Told}
use Rattle.ccsl_vcd.specs.declared.limits.Limits.{Limits}
use Rattle.ccsl_vcd.specs.Binding.{Wanted}
use Rattle.ccsl_vcd.specs.Reading.{reading}
use Rattle.ccsl_vcd_read.specs.declared.reader.Counts.{Counts}
use Rattle.ccsl_vcd_read.specs.Heading.{NotMemory}
use Rattle.ccsl_trace.specs.declared.fault.TraceFault.{TraceFault}
use Rattle.ccsl_trace.specs.declared.fault.TraceFault.TheVariants.{Fault, Refused, Memory}
use Rattle.ccsl_trace.specs.declared.next.Next.{Next}
use Rattle.ccsl_trace.specs.declared.next.Next.TheVariants.{Bound, Rows, Ended}
use Rattle.ccsl_base.specs.declared.limits.TheConstants.{PIECE}
use Rattle.ccsl_trace.specs.HeaderEnd.{ends_header}
use Rattle.ccsl_trace.specs.Traces.{Ends}
use Rattle.ccsl_trace.specs.Feeding.{Feeding, bound_of, calls_left, Feeds}

-- the bytes reach at most one piece past the header's end
abbrev pub IsNear : Wanted → Limits → List ℕ → Type 0
IsNear wanted limits bytes = (n : ℕ) → ends_header wanted limits (take n bytes) ≡ true → length bytes ≤ n + PIECE

-- whether the clocks were bound just now, or nothing has changed
abbrev pub Turns : Bool → Option (List ℕ) → Option (List ℕ) → Type 0
Turns true before now = (before ≡ None) × (bound : List ℕ) × (now ≡ Some bound)
Turns false before now = now ≡ before

-- every trace that begins with the bytes is refused
abbrev pub RefusesAll : TraceFault → Wanted → Limits → List ℕ → Type 0
RefusesAll Fault wanted limits bytes = ⊥
RefusesAll (Refused f) wanted limits bytes = NotMemory f × ((more : List ℕ) → (reading wanted limits (bytes ++ more)).fault ≡ Some f)
RefusesAll Memory wanted limits bytes = IsNear wanted limits bytes

-- the trace of these bytes is refused
abbrev pub RefusesIt : TraceFault → Wanted → Limits → List ℕ → Type 0
RefusesIt Fault wanted limits bytes = ⊥
RefusesIt (Refused f) wanted limits bytes = NotMemory f × ((reading wanted limits bytes).fault ≡ Some f)
RefusesIt Memory wanted limits bytes = IsNear wanted limits bytes

-- the trace has ended, and its end has ended the header
pub record EndsLate (wanted : Wanted) (limits : Limits) (bytes : List ℕ) (before : Option (List ℕ)) (feed : Feeding) (rows : List Row) : Type 0 where
  pub waited : before ≡ None
  pub none : rows ≡ []
  pub near : IsNear wanted limits bytes
  pub bound : List ℕ
  pub shows : bound_of feed ≡ Some bound
  pub counts : Counts
  pub ended : feed.ended ≡ Some counts
  pub ends : Ends wanted limits bytes bound feed.block.rows counts.rows counts.bytes
  pub few : length feed.block.rows < 2 ^ 64

-- the trace has ended in its body
pub record EndsNow (wanted : Wanted) (limits : Limits) (bytes : List ℕ) (before : Option (List ℕ)) (feed : Feeding) (rows : List Row)
    (n : Counts) : Type 0 where
  pub bound : List ℕ
  pub known : before ≡ Some bound
  pub shows : bound_of feed ≡ Some bound
  pub ends : Ends wanted limits bytes bound (rows ++ feed.block.rows) n.rows n.bytes
  pub few : length rows + length feed.block.rows < 2 ^ 64

abbrev pub Finishes : Next → Wanted → Limits → List ℕ → Option (List ℕ) → Feeding → List Row → Type 0
Finishes Bound wanted limits bytes before feed rows = EndsLate wanted limits bytes before feed rows
Finishes Rows wanted limits bytes before feed rows = ⊥
Finishes (Ended n) wanted limits bytes before feed rows = EndsNow wanted limits bytes before feed rows n

-- nothing is to be handed out yet
pub record GoesOn (told : Told) (old new : State) (before after : Feeding) : Type 0 where
  pub bound : bound_of after ≡ bound_of before
  pub handed : after.handed ≡ false
  pub ended : after.ended ≡ None
  pub closer : calls_left after < calls_left before
  pub feeds : (wanted : Wanted) (limits : Limits) (start : State) (rows : List Row) → Feeds told wanted limits start old before rows
      → Feeds told wanted limits start new after rows
