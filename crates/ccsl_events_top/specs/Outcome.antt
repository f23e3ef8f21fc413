-- What a run has done to a world where the words name its files: what it has read, made and written, or why not.
use Rattle.std.specs.Prelude.{◌≡◌, ◌⊎◌, ℕ, List, [], ◌++◌, take, Option, Some, None, Result, Ok, Err, IsTrue, false}
use Rattle.ccsl_edge.specs.declared.slot.Slot.TheVariants.{Spec, Trace, TraceOut, Report}
use Rattle.ccsl_edge.specs.World.{State, Told, held}
use Rattle.ccsl_edge.specs.Counts.{SameCounts, NoCountFalls}
use Rattle.ccsl_edge.specs.Stored.{Stores}
use Rattle.ccsl_event_file.specs.declared.fault.EventFault.TheVariants as faults
use Rattle.ccsl_event_file.specs.File.{Event, events}
use Rattle.ccsl_events_top.specs.declared.stop.Stop.{Stop}
use Rattle.ccsl_events_top.specs.declared.stop.Stop.TheVariants as stops
use Rattle.ccsl_events_top.specs.Words.{Named}
use Rattle.ccsl_events_top.specs.Streams.{slot_of, RoseAt}
use Rattle.ccsl_events_top.specs.Made.{reading_of, IsMade}
use Rattle.ccsl_events_top.specs.Effects.{sink_of, IsAddedTo, Stays}

-- the world tells the files and what is left of each input
abbrev pub IsTold : Told → Type 0
IsTold told = IsTrue told.files × IsTrue told.left

-- this was written: on standard output behind what stood there, or to a file of that name, which has nothing else
abbrev pub IsPut : Told → Option (List ℕ) → State → State → List ℕ → Type 0
IsPut told None old new text = IsTrue told.written → (new.slot_of Report).written ≡ (old.slot_of Report).written ++ text
IsPut told (Some name) old new text =
    IsTrue told.written → ((new.slot_of TraceOut).written ≡ text) × ((new.slot_of TraceOut).name ≡ name)

-- where a trace goes nothing was opened and nothing written
pub record IsUnwritten (told : Told) (out : Option (List ℕ)) (old new : State) : Type 0 where
  pub still : IsAddedTo (old.slot_of (slot_of (sink_of out))) (new.slot_of (slot_of (sink_of out)))
  pub same : IsTrue told.written → (new.slot_of (slot_of (sink_of out))).written ≡ (old.slot_of (slot_of (sink_of out))).written

-- There is no trace, or it was written, and where it goes to a file, this was closed and holds it. No other file has changed.
pub data IsWrittenTo (told : Told) (out : Option (List ℕ)) (text : List ℕ) (old new : State) : Type 0 where
  unwritten : (nothing : text ≡ []) (is : IsUnwritten told out old new) (files : new.files ≡ old.files) → IsWrittenTo told out text old new
  printed : (standard : out ≡ None) (put : IsPut told out old new text) (files : new.files ≡ old.files) → IsWrittenTo told out text old new
  filed : (name : List ℕ) (file : out ≡ Some name) (put : IsPut told out old new text) (closed : (new.slot_of TraceOut).is_open ≡ false)
      (stored : IsTrue told.files → IsTrue told.written → Stores name text old.files new.files) → IsWrittenTo told out text old new

module _ (told : Told) (n : Named) (old new : State) where
  abbrev pub IsMadeOf : Result (ℕ × ℕ) Stop → List ℕ → Type 0
  IsMadeOf done text = IsMade (held old.files n.events) (held old.files n.trace) n.gaps done text

  -- this was made and written
  pub record Makes (done : Result (ℕ × ℕ) Stop) : Type 0 where
    pub text : List ℕ
    pub made : IsTold told → IsMadeOf done text
    pub writes : IsWrittenTo told n.out text old new
    pub counts : SameCounts old new
    pub stays : Stays (sink_of n.out) old new

  -- what was written comes first in what is made
  pub data IsFront : Type 0 where
    nothing : (same : (new.slot_of (slot_of (sink_of n.out))).written ≡ (old.slot_of (slot_of (sink_of n.out))).written) → IsFront
    part : (done : Result (ℕ × ℕ) Stop) (text : List ℕ) (made : IsMadeOf done text) (count : ℕ)
        (put : IsPut told n.out old new (take count text)) → IsFront

  -- the file of events has no fault
  abbrev pub HasEvents : Type 0
  HasEvents = IsTold told → (es : List Event) × (reading_of (held old.files n.events) ≡ events es)

  -- which call failed: on the file of events, or else on the dump or on what is written
  pub data IsCause : Type 0 where
    by_events : (rose : RoseAt Spec old new) → IsCause
    by_dump : (has_events : HasEvents) (rose : RoseAt Trace old new) → IsCause
    by_trace : (has_events : HasEvents) (rose : RoseAt (slot_of (sink_of n.out)) old new) → IsCause

  pub record Fails : Type 0 where
    pub cause : IsCause
    pub falls : NoCountFalls old new
    pub front : IsTold told → IsTrue told.written → IsFront
    pub files : new.files ≡ old.files
    pub stays : Stays (sink_of n.out) old new

  -- no memory was to be had
  pub record Starves : Type 0 where
    pub counts : SameCounts old new
    pub front : IsTold told → IsTrue told.written → IsFront
    pub files : new.files ≡ old.files
    pub stays : Stays (sink_of n.out) old new

  -- WHAT WAS DONE: a trace was made, or this is why not
  abbrev pub IsOutcome : Result (ℕ × ℕ) Stop → Type 0
  IsOutcome (Ok counts) = Makes (Ok counts)
  IsOutcome (Err (stops.Words fault)) = ⊥
  IsOutcome (Err (stops.Events f near)) = Makes (Err (stops.Events f near)) ⊎ ((f ≡ faults.Memory) × Starves)
  IsOutcome (Err (stops.Trace f)) = Makes (Err (stops.Trace f))
  IsOutcome (Err stops.Fault) = Fails
  IsOutcome (Err stops.Memory) = Starves
