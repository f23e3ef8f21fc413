-- What the stages of a run leave of a world, and what they hand on.
use Rattle.std.specs.Prelude.{◌≡◌, ◌⊎◌, ◌≤◌, ◌<◌, ℕ, List, [], length, map, Bool, true, false, Result, Ok, Err}
use Rattle.std.specs.declared.vec.Vec.{Vec}
use Rattle.std.specs.declared.alloc.Global.{Global}
use Rattle.ccsl_base.specs.declared.limits.TheConstants.{MAX_SPEC_BYTES}
use Rattle.ccsl_edge.specs.declared.slot.Slot.{Slot}
use Rattle.ccsl_edge.specs.declared.slot.Slot.TheVariants.{Spec, TraceOut}
use Rattle.ccsl_edge.specs.World.{State, Told, held}
use Rattle.ccsl_edge.specs.Calls.{ChangesOnly, Fails, OpensOut, Closes}
use Rattle.ccsl_edge.specs.Counts.{SameCounts, NoCountFalls}
use Rattle.ccsl_event_file.specs.declared.event.Event as code
use Rattle.ccsl_event_file.specs.declared.fault.EventFault.{EventFault}
use Rattle.ccsl_event_file.specs.declared.fault.EventFault.TheVariants as faults
use Rattle.ccsl_event_file.specs.File.{events, reading}
use Rattle.ccsl_event_file.specs.Parsing.{event_in, IsFault}
use Rattle.ccsl_events.specs.declared.body.Body.{Body}
use Rattle.ccsl_events.specs.Binding.{Bound}
use Rattle.ccsl_events.specs.Begun.{StandsFor}
use Rattle.ccsl_events.specs.Dump.{Plan}
use Rattle.ccsl_events_top.specs.declared.sink.Sink.TheVariants.{File}
use Rattle.ccsl_events_top.specs.declared.stop.Stop.{Stop}
use Rattle.ccsl_events_top.specs.declared.stop.Stop.TheVariants as stops
use Rattle.ccsl_events_top.specs.Streams.{RoseAt}
use Rattle.ccsl_events_top.specs.Effects.{IsRead}
use Rattle.ccsl_events_top.specs.Outcome.{IsTold}
use Rattle.ccsl_events_top.specs.Passing.{Leaves, EndsBody}

-- ## The file of events

-- an input was read, or a call on it failed, and nothing else was touched
pub record ReadsOn (slot : Slot) (old new : State) : Type 0 where
  pub only : ChangesOnly slot old new
  pub read : IsRead (old.slot_of slot) (new.slot_of slot)
  pub counts : SameCounts old new

pub record FailsOn (slot : Slot) (old new : State) : Type 0 where
  pub only : ChangesOnly slot old new
  pub read : IsRead (old.slot_of slot) (new.slot_of slot)
  pub rose : RoseAt slot old new
  pub falls : NoCountFalls old new

-- all of it was read
pub record HasText (told : Told) (name text : List ℕ) (old new : State) : Type 0 where
  pub reads : ReadsOn Spec old new
  pub within : length text ≤ MAX_SPEC_BYTES
  pub is : IsTold told → held old.files name ≡ text

-- it has too many bytes
pub record IsLong (told : Told) (name : List ℕ) (old new : State) : Type 0 where
  pub reads : ReadsOn Spec old new
  pub long : IsTold told → MAX_SPEC_BYTES < length (held old.files name)

abbrev pub ReadsFile : Told → List ℕ → Result (Vec ℕ Global) Stop → State → State → Type 0
ReadsFile told name (Ok text) old new = HasText told name text.items old new
ReadsFile told name (Err (stops.Words fault)) old new = ⊥
ReadsFile told name (Err (stops.Events f near)) old new = (f ≡ faults.TooLong) × IsLong told name old new
ReadsFile told name (Err (stops.Trace f)) old new = ⊥
ReadsFile told name (Err stops.Fault) old new = FailsOn Spec old new
ReadsFile told name (Err stops.Memory) old new = ReadsOn Spec old new

-- the events that a text says, or its first fault
abbrev pub SaysEvents : List ℕ → Result (Vec code.Event Global) Stop → Type 0
SaysEvents text (Ok es) = reading text ≡ events (map event_in es.items)
SaysEvents text (Err (stops.Words fault)) = ⊥
SaysEvents text (Err (stops.Events f near)) = IsFault f (reading text)
SaysEvents text (Err (stops.Trace f)) = ⊥
SaysEvents text (Err stops.Fault) = ⊥
SaysEvents text (Err stops.Memory) = ⊥

-- ## The body

-- it stands for what the events mean, or their first fault is answered, unless memory ran out
abbrev pub IsBodyFor : Result Bound EventFault → Result Body Stop → Type 0
IsBodyFor meaning (Ok body) = StandsFor meaning body
IsBodyFor meaning (Err (stops.Words fault)) = ⊥
IsBodyFor meaning (Err (stops.Events f near)) = (meaning ≡ Err f) ⊎ (f ≡ faults.Memory)
IsBodyFor meaning (Err (stops.Trace f)) = ⊥
IsBodyFor meaning (Err stops.Fault) = ⊥
IsBodyFor meaning (Err stops.Memory) = ⊥

-- ## The file that is written

-- all that a body says was written, up to its end or its first fault
abbrev pub is_written : Result ℕ Stop → Bool
is_written (Ok times) = true
is_written (Err (stops.Words fault)) = false
is_written (Err (stops.Events f near)) = false
is_written (Err (stops.Trace f)) = true
is_written (Err stops.Fault) = false
is_written (Err stops.Memory) = false

-- A pass that had written nothing has written its trace to a file of this name, by the state in which its dump was opened.
pub data WritesFile (told : Told) (name : List ℕ) (start s t : State) (plan : Plan) (head text : List ℕ) (result : Result ℕ Stop) : Type 0 where
  -- the file could not be opened
  unopened : (leaves : Leaves told File start s []) (fails : Fails TraceOut s t) (is : result ≡ Err stops.Fault)
      → WritesFile told name start s t plan head text result
  -- the body was left
  stopped : (begun : State) (opens : OpensOut told TraceOut name start begun) (ends : EndsBody told File begun t result plan head text)
      (left : is_written result ≡ false) → WritesFile told name start s t plan head text result
  -- it was written, and the file could not be closed
  unclosed : (begun : State) (opens : OpensOut told TraceOut name start begun) (end : State) (ended : Result ℕ Stop)
      (ends : EndsBody told File begun end ended plan head text) (written : is_written ended ≡ true) (fails : Fails TraceOut end t)
      (is : result ≡ Err stops.Fault) → WritesFile told name start s t plan head text result
  closed : (begun : State) (opens : OpensOut told TraceOut name start begun) (end : State)
      (ends : EndsBody told File begun end result plan head text) (written : is_written result ≡ true) (closes : Closes told TraceOut end t)
      → WritesFile told name start s t plan head text result
