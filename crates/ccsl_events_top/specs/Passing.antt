-- A pass over a dump: what it has read of a world since a state of it, given to its reader, and written.
use Rattle.std.specs.Prelude.{◌≡◌, ◌⊎◌, ℕ, ◌+◌, ◌-◌, ◌≤◌, ◌<◌, List, [], ◌∷◌, ◌++◌, length, take, Bool, true, false, Some, Result, Ok, Err, IsTrue}
use Rattle.ccsl_base.specs.declared.limits.TheConstants.{MAX_FILE_BYTES}
use Rattle.ccsl_edge.specs.declared.slot.Slot.TheVariants.{Trace}
use Rattle.ccsl_edge.specs.World.{State, Told}
use Rattle.ccsl_edge.specs.Counts.{SameCounts, NoCountFalls}
use Rattle.ccsl_vcd.specs.declared.fault.VcdFault.{VcdFault}
use Rattle.ccsl_vcd.specs.declared.fault.VcdFault.TheVariants as faults
use Rattle.ccsl_vcd.specs.Places.{Among}
use Rattle.ccsl_scopes.specs.Headings.{Heading}
use Rattle.ccsl_events.specs.Dump.{Plan, Place, Said, goes, refused}
use Rattle.ccsl_events.specs.Standing.{counted}
use Rattle.ccsl_events.specs.Opening.{ended}
use Rattle.ccsl_events.specs.Fed.{IsInHeader, IsBehindHeader, MayBegin, HasTaken}
use Rattle.ccsl_events_top.specs.declared.sink.Sink.{Sink}
use Rattle.ccsl_events_top.specs.declared.pass.Pass.{Pass}
use Rattle.ccsl_events_top.specs.declared.stop.Stop.{Stop}
use Rattle.ccsl_events_top.specs.declared.stop.Stop.TheVariants as stops
use Rattle.ccsl_events_top.specs.Streams.{Streams, RoseAt, slot_of}
use Rattle.ccsl_vcd.specs.declared.limits.TheConstants.{LIMITS}
use Rattle.ccsl_events_top.specs.Reading.{opened, header_fault, end_fault, story_behind, body_ends, body_said, rows_of}

-- the bytes that the reader was given, of those that were read
abbrev pub AreGiven : Bool → List ℕ → List ℕ → List ℕ → Type 0
AreGiven false bytes given pending = take MAX_FILE_BYTES bytes ≡ given ++ pending
AreGiven true bytes given pending = (given ≡ bytes ++ 10 ∷ []) × (pending ≡ [])

-- the bytes of the dump
abbrev pub dump_of : State → List ℕ
dump_of start = (start.slot_of Trace).left

module _ (told : Told) (sink : Sink) (start now : State) where
  -- the bytes are a whole dump
  pub record IsWhole (bytes : List ℕ) : Type 0 where
    pub few : length bytes ≤ MAX_FILE_BYTES
    pub whole : IsTrue told.left → dump_of start ≡ bytes

  pub record Passes (pass : Pass) (given written : List ℕ) : Type 0 where
    pub bytes : List ℕ
    pub streams : Streams told sink bytes written start now
    pub counts : SameCounts start now
    pub read : pass.read ≡ length bytes
    pub within : length bytes ≤ MAX_FILE_BYTES + 1
    pub given_are : AreGiven pass.has_ended bytes given pass.pending
    pub ended : pass.has_ended ≡ true → IsWhole bytes

  -- some bytes were read and these were written, and no call failed
  pub record Leaves (written : List ℕ) : Type 0 where
    pub read : List ℕ
    pub streams : Streams told sink read written start now
    pub counts : SameCounts start now

  -- a call on the dump or on the trace of events failed
  pub record Breaks (written : List ℕ) : Type 0 where
    pub read : List ℕ
    pub streams : Streams told sink read written start now
    pub rose : RoseAt Trace start now ⊎ RoseAt (slot_of sink) start now
    pub falls : NoCountFalls start now

  -- ## The next piece

  -- the dump has ended
  pub record HasAll (pass : Pass) (given written : List ℕ) : Type 0 where
    pub passes : Passes pass given written
    pub none : pass.pending ≡ []
    pub few : pass.read ≤ MAX_FILE_BYTES
    pub left : IsTrue told.left → (now.slot_of Trace).left ≡ []

  -- it is too long
  pub record IsCut (given written : List ℕ) : Type 0 where
    pub bytes : List ℕ
    pub streams : Streams told sink bytes written start now
    pub counts : SameCounts start now
    pub long : MAX_FILE_BYTES < length bytes
    pub given_are : take MAX_FILE_BYTES bytes ≡ given

  abbrev pub Refills : Result Bool Stop → Pass → List ℕ → List ℕ → Type 0
  Refills (Ok true) pass given written = Passes pass given written
  Refills (Ok false) pass given written = HasAll pass given written
  Refills (Err (stops.Words fault)) pass given written = ⊥
  Refills (Err (stops.Events fault near)) pass given written = ⊥
  Refills (Err (stops.Trace f)) pass given written = (f ≡ faults.TooLong MAX_FILE_BYTES) × IsCut given written
  Refills (Err stops.Fault) pass given written = Breaks written
  Refills (Err stops.Memory) pass given written = ⊥

  -- ## The header

  -- it has not ended
  pub record InHeader (pass : Pass) : Type 0 where
    pub given : List ℕ
    pub among : Among
    pub heading : Heading
    pub passes : Passes pass given []
    pub inside : IsInHeader LIMITS given among heading pass.reader
    pub blank : pass.block.items ≡ []

  -- it has ended, with so much declared
  pub record BehindHeader (heading : Heading) (pass : Pass) : Type 0 where
    pub given : List ℕ
    pub passes : Passes pass given []
    pub behind : IsBehindHeader LIMITS given heading pass.reader
    pub blank : pass.block.items ≡ []

  -- it was taken, and the body may begin
  pub record HasHeader (heading : Heading) (pass : Pass) : Type 0 where
    pub given : List ℕ
    pub passes : Passes pass given []
    pub at : ℕ
    pub one_behind : length given ≡ at + 1
    pub header : IsTrue told.left → opened (dump_of start) ≡ ended heading at
    pub ready : MayBegin (length given) pass.reader
    pub blank : pass.block.items ≡ []

  -- why it was not read
  abbrev pub IsUnopened : Stop → Type 0
  IsUnopened (stops.Words fault) = ⊥
  IsUnopened (stops.Events fault near) = ⊥
  IsUnopened (stops.Trace f) = Leaves [] × (IsTrue told.left → header_fault (end_fault (dump_of start)) (opened (dump_of start)) ≡ Some f)
  IsUnopened stops.Fault = Breaks []
  IsUnopened stops.Memory = Leaves []

  -- the reader was given more than so many bytes, and the header goes on, or has ended
  abbrev pub GoesOn : ℕ → Pass → Type 0
  GoesOn before pass = (InHeader pass ⊎ ((h : Heading) × BehindHeader h pass)) × (before < pass.reader.taken)

  abbrev pub HeadsOn : Result (Unit {0}) VcdFault → ℕ → Pass → Type 0
  HeadsOn (Ok u) before pass = GoesOn before pass
  HeadsOn (Err f) before pass = (f ≡ faults.Memory) ⊎ IsUnopened (stops.Trace f)

  abbrev pub StepsHeader : Result Bool Stop → ℕ → Pass → Type 0
  StepsHeader (Ok true) before pass = GoesOn before pass
  StepsHeader (Ok false) before pass = InHeader pass × (pass.has_ended ≡ true)
  StepsHeader (Err stop) before pass = IsUnopened stop

  -- ## The body, behind a header of so many bytes

  -- What was written and what waits in the block is a text and the rows so far.
  pub record InBody (plan : Plan) (head text : List ℕ) (pass : Pass) : Type 0 where
    pub given : List ℕ
    pub written : List ℕ
    pub place : Place
    pub passes : Passes pass (head ++ given) written
    pub taken : HasTaken plan (length head) given place pass.reader
    pub rows : written ++ pass.block.items ≡ text ++ place.written

  -- nothing was written yet
  pub record Begins (plan : Plan) (head text : List ℕ) (pass : Pass) : Type 0 where
    pub body : InBody plan head text pass
    pub unwritten : body.written ≡ []

  -- a fault: what was written, and what waits in the block, is the text and the rows before it
  pub record IsBroken (plan : Plan) (head text : List ℕ) (f : VcdFault) (waits : List ℕ) : Type 0 where
    pub written : List ℕ
    pub place : Place
    pub leaves : Leaves written
    pub rows : written ++ waits ≡ text ++ place.written
    pub ended : IsTrue told.left → body_ends plan (dump_of start) place (story_behind plan (length head) (dump_of start)).fault ≡ refused f
    pub told_is : IsTrue told.left → (story_behind plan (length head) (dump_of start)).place ≡ place

  -- a call failed, or no memory was to be had: what was written, and what waits, comes first in the text and the rows of the dump
  pub record IsCutOff (IsLeft : List ℕ → Type 0) (plan : Plan) (head text waits : List ℕ) : Type 0 where
    pub written : List ℕ
    pub left : IsLeft written
    pub front : IsTrue told.left → (more : List ℕ) × ((written ++ waits) ++ more ≡ text ++ rows_of plan (length head) (dump_of start))

  abbrev pub BodyOn : Result (Unit {0}) VcdFault → Plan → List ℕ → List ℕ → ℕ → Pass → Type 0
  BodyOn (Ok u) plan head text before pass = InBody plan head text pass × (before < pass.reader.taken)
  BodyOn (Err f) plan head text before pass = (f ≡ faults.Memory) ⊎ IsBroken plan head text f pass.block.items

  abbrev pub StepsBody : Result Bool Stop → Plan → List ℕ → List ℕ → ℕ → Pass → Type 0
  StepsBody (Ok true) plan head text before pass = InBody plan head text pass × (before < pass.reader.taken)
  StepsBody (Ok false) plan head text before pass = InBody plan head text pass × (pass.has_ended ≡ true)
  StepsBody (Err (stops.Words fault)) plan head text before pass = ⊥
  StepsBody (Err (stops.Events fault near)) plan head text before pass = ⊥
  StepsBody (Err (stops.Trace f)) plan head text before pass = IsBroken plan head text f pass.block.items
  StepsBody (Err stops.Fault) plan head text before pass = IsCutOff Breaks plan head text pass.block.items
  StepsBody (Err stops.Memory) plan head text before pass = IsCutOff Leaves plan head text []

  -- ## The end

  -- all that the body says was written: its rows, up to the first fault where it has one
  pub record IsWritten (plan : Plan) (head text : List ℕ) (said : Said) : Type 0 where
    pub written : List ℕ
    pub leaves : Leaves written
    pub says : IsTrue told.left → body_said plan (length head) (dump_of start) ≡ said
    pub rows : IsTrue told.left → written ≡ text ++ rows_of plan (length head) (dump_of start)

  -- the whole body was, and so many times have a row
  pub record IsWhollyWritten (plan : Plan) (head text : List ℕ) (times : ℕ) : Type 0 where
    pub last : Place
    pub count : times ≡ counted last.times
    pub is : IsWritten plan head text (goes last)

  -- why it was not
  abbrev pub IsStopped : Plan → List ℕ → List ℕ → Stop → Type 0
  IsStopped plan head text (stops.Words fault) = ⊥
  IsStopped plan head text (stops.Events fault near) = ⊥
  IsStopped plan head text (stops.Trace f) = IsWritten plan head text (refused f)
  IsStopped plan head text stops.Fault = IsCutOff Breaks plan head text []
  IsStopped plan head text stops.Memory = IsCutOff Leaves plan head text []

  abbrev pub EndsBody : Result ℕ Stop → Plan → List ℕ → List ℕ → Type 0
  EndsBody (Ok times) plan head text = IsWhollyWritten plan head text times
  EndsBody (Err stop) plan head text = IsStopped plan head text stop

-- how many bytes, and the line feed behind them, the reader may still be given
abbrev pub left_for : Pass → ℕ
left_for pass = MAX_FILE_BYTES + 2 - pass.reader.taken
