-- THE PROMISE OF THE PROGRAM'S ONE CALL, each sentence a field: what stands after it, from the words, the world before and the
-- world after, the status and the line for standard error.
use Rattle.std.specs.Prelude.{◌≡◌, ◌≢◌, ◌⊎◌, ℕ, List, [], ◌++◌, Option, Some, None, Result, Ok, Err, IsTrue, Bool, true, ◌==◌, ◌||◌}
use Rattle.ccsl_edge.specs.declared.slot.Slot.{Slot}
use Rattle.ccsl_edge.specs.declared.slot.Slot.TheVariants as slots
use Rattle.ccsl_edge.specs.World.{State, SlotState, Told, file_at}
use Rattle.ccsl_edge.specs.Counts.{SameCounts, NoCountFalls}
use Rattle.ccsl_edge.specs.Calls.{Adds, AddsFront}
use Rattle.ccsl_events_top.specs.declared.answer.Answer.{Answer}
use Rattle.ccsl_events_top.specs.declared.words.Key.TheVariants as keys
use Rattle.ccsl_events_top.specs.declared.words.Usage.{Usage}
use Rattle.ccsl_events_top.specs.declared.stop.Stop.{Stop}
use Rattle.ccsl_events_top.specs.declared.stop.Stop.TheVariants.{Words}
use Rattle.ccsl_events_top.specs.Words.{Named, meaning, value_of}
use Rattle.ccsl_events_top.specs.Report.{status_of, line_of}
use Rattle.ccsl_events_top.specs.Streams.{RoseAt}
use Rattle.ccsl_events_top.specs.Effects.{IsRead, IsAddedTo}
use Rattle.ccsl_events_top.specs.Outcome.{IsTold, IsWrittenTo, IsMadeOf, IsFront, IsCause}

-- where the words send the trace
abbrev pub out_of : List (List ℕ) → Option (List ℕ)
out_of words = value_of keys.Out words

abbrev pub is_status : ℕ → Bool
is_status n = n == 0 || (n == 2 || (n == 3 || (n == 4 || (n == 5 || n == 6))))

-- what is done, and the trace's text, by the meaning of the words
abbrev pub IsDone : Told → State → State → Result Named Usage → Result (ℕ × ℕ) Stop → List ℕ → Type 0
IsDone told old new (Ok n) done text = IsMadeOf told n old new done text
IsDone told old new (Err fault) done text = (done ≡ Err (Words fault)) × (text ≡ [])

-- the line of report is on standard output where that is no trace, and else for standard error
abbrev pub IsSaid : Told → Option (List ℕ) → List ℕ → List ℕ → State → State → Type 0
IsSaid told None said line old new = line ≡ said
IsSaid told (Some name) said line old new =
    (line ≡ []) × (IsTrue told.written → (new.slot_of slots.Report).written ≡ (old.slot_of slots.Report).written ++ said)

-- an answer was reported: its line went to standard output, where that is no trace, and a failed call there is status 5
pub record SaysLine (answer result : Answer) (told : Told) (old new : State) : Type 0 where
  pub empty : result.line ≡ []
  pub status : result.status ≡ answer.status
  pub adds : Adds told slots.Report answer.line old new

pub record SaysPart (answer result : Answer) (told : Told) (old new : State) : Type 0 where
  pub empty : result.line ≡ []
  pub status : result.status ≡ 5
  pub adds : AddsFront told slots.Report answer.line old new

abbrev pub IsReported : Told → Option (List ℕ) → Answer → Answer → State → State → Type 0
IsReported told None answer result old new = (result ≡ answer) × (new ≡ old)
IsReported told (Some name) answer result old new = SaysLine answer result told old new ⊎ SaysPart answer result told old new

pub record Answers (told : Told) (words : List (List ℕ)) (status : ℕ) (line : List ℕ) (old new : State) : Type 0 where
  pub done : Result (ℕ × ℕ) Stop
  pub text : List ℕ
  pub is : IsDone told old new (meaning words) done text
  pub status_is : status ≡ status_of done
  pub says : IsSaid told (out_of words) (line_of done) line old new
  pub writes : IsWrittenTo told (out_of words) text old new

-- status 5 comes only where a call failed: on the report, or on a file that the words name
pub data FaultCause (told : Told) (words : List (List ℕ)) (old new : State) : Type 0 where
  by_report : (rose : RoseAt slots.Report old new) → FaultCause told words old new
  by_file : (n : Named) (means : meaning words ≡ Ok n) (cause : IsCause told n old new) → FaultCause told words old new

-- a file is as it was, or is the one that the words send the trace to, and holds all that is defined of it
pub data IsKeptOrWhole (told : Told) (words : List (List ℕ)) (old new : State) (name : List ℕ) : Type 0 where
  kept : (same : file_at new.files name ≡ file_at old.files name) → IsKeptOrWhole told words old new name
  whole : (n : Named) (means : meaning words ≡ Ok n) (out : n.out ≡ Some name) (done : Result (ℕ × ℕ) Stop) (text : List ℕ)
      (made : IsMadeOf told n old new done text) (holds : file_at new.files name ≡ Some text) → IsKeptOrWhole told words old new name

-- what may change of a slot: of the file of events and of the dump what was read, of the report and of the trace what was written
abbrev pub MayChange : Option (List ℕ) → Slot → SlotState → SlotState → Type 0
MayChange out slots.Spec old new = IsRead old new
MayChange out slots.Trace old new = IsRead old new
MayChange out slots.Report old new = IsAddedTo old new
MayChange (Some name) slots.TraceOut old new = new.left ≡ old.left
MayChange out slot old new = new ≡ old

pub record Headline (told : Told) (words : List (List ℕ)) (status : ℕ) (line : List ℕ) (old new : State) : Type 0 where
  pub known : is_status status ≡ true
  -- THE ANSWER: where the world tells its files, a status that is neither 5 nor 6 is the defined one, and exactly the defined trace and
  -- line were written
  pub defined : IsTold told → status ≢ 5 → status ≢ 6 → Answers told words status line old new
  -- FAULTS of files: no count falls, and every count is as it was unless the status is 5
  pub counts_rise : NoCountFalls old new
  pub counts_stay : status ≢ 5 → SameCounts old new
  pub fault_cause : status ≡ 5 → FaultCause told words old new
  -- WHERE THERE IS NO ANSWER nothing is reported, and what was written of the trace comes first in what is defined
  pub silent : (status ≡ 5) ⊎ (status ≡ 6) → line ≡ []
  pub unreported : (status ≡ 5) ⊎ (status ≡ 6) → (name : List ℕ) → out_of words ≡ Some name → IsTrue told.written →
      ((new.slot_of slots.Report).written ≡ (old.slot_of slots.Report).written) ⊎ RoseAt slots.Report old new
  pub front : IsTold told → IsTrue told.written → (n : Named) → meaning words ≡ Ok n → IsFront told n old new
  -- WHAT STAYS: every file but the one that the trace goes to, and that one until it holds all that is defined of it; and the slots
  pub files : IsTold told → IsTrue told.written → (name : List ℕ) → IsKeptOrWhole told words old new name
  pub stays : (slot : Slot) → MayChange (out_of words) slot (old.slot_of slot) (new.slot_of slot)
  pub untouched : (fault : Usage) → meaning words ≡ Err fault → (slot : Slot) → slot ≢ slots.Report → new.slot_of slot ≡ old.slot_of slot
