-- What stands before the report is written.
use Rattle.std.specs.Prelude.{◌≡◌, ◌≢◌, ◌⊎◌, ℕ, Bool, true, false, List, Ok, IsTrue, Contains}
use Rattle.ccsl_edge.specs.declared.slot.Slot.{Slot}
use Rattle.ccsl_edge.specs.World.{State, Told, held}
use Rattle.ccsl_command.specs.declared.command.Command.{Command}
use Rattle.ccsl_command.specs.declared.command.Command.TheVariants as command
use Rattle.ccsl_command.specs.Meaning.{meaning}
use Rattle.ccsl_command.specs.Opened.{files_opened}
use Rattle.ccsl_edge.specs.declared.stop.Stop.{Stop}
use Rattle.ccsl_edge.specs.declared.stop.Stop.TheVariants.{Fault, Memory}
use Rattle.ccsl_top.specs.declared.reply.Status.{Status}
use Rattle.ccsl_top.specs.declared.reply.Status.TheVariants.{Done, No, WordsRefused, SpecRefused, FileRefused, Deadlock}
use Rattle.ccsl_top.specs.declared.reply.Reply.{Reply}
use Rattle.ccsl_top.specs.Outcome.{Outcome, outcome}
use Rattle.ccsl_top.specs.Program.{IsOutcome}
use Rattle.ccsl_top.specs.Statuses.{answers_of}
use Rattle.ccsl_top.specs.Opening.{opens, is_output, may_change}
use Rattle.ccsl_top.specs.Changes.{Stays}
use Rattle.ccsl_top.specs.Headline.{IsTold, input_of, FaultCause, LeavesTrace, IsDefinedOutput, IsKeptOrWhole, IsFrontOn, AreHeld}

abbrev pub code_of : Status → ℕ
code_of Done = 0
code_of No = 1
code_of WordsRefused = 2
code_of SpecRefused = 3
code_of FileRefused = 4
code_of Deadlock = 8

-- the outcome that a reply stands for, where no file is written
abbrev pub plain_reply : Reply → Outcome
plain_reply r = outcome (code_of r.status) r.line.items

-- the slots that were used are opened by the words
abbrev pub AreOpened : List (List ℕ) → (Slot → Bool) → Type 0
AreOpened words used = (slot : Slot) → used slot ≡ true → opens (files_opened words) slot ≡ true

-- what a command leaves of the world, whatever it answers
pub record Leaves (told : Told) (words : List (List ℕ)) (used : Slot → Bool) (old new : State) : Type 0 where
  pub opened : AreOpened words used
  pub stays : Stays told (files_opened words) used old new
  pub whole : IsTold told words → IsTrue told.written → (name : List ℕ) → IsKeptOrWhole (IsDefinedOutput words old.files) old new name
  pub fronts : IsTold told words → IsTrue told.written → (slot : Slot) → is_output slot ≡ true →
      IsFrontOn (IsDefinedOutput words old.files) old new slot

-- this is the defined outcome, and its files are written
pub record IsDefined (told : Told) (words : List (List ℕ)) (o : Outcome) (old new : State) : Type 0 where
  pub is : IsOutcome words (held old.files) (input_of old) o
  pub files : IsTrue told.written → AreHeld new.files o.outputs

-- the outcome that a reply stands for
pub record Stands (told : Told) (words : List (List ℕ)) (reply : Reply) (old new : State) : Type 0 where
  pub outcome : Outcome
  pub status_is : code_of reply.status ≡ outcome.status
  pub report_is : reply.line.items ≡ outcome.report
  pub defined : IsDefined told words outcome old new

-- a reply to what was read behind a specification is none of these
abbrev pub IsReadStatus : ℕ → Type 0
IsReadStatus status = (status ≢ 2) × (status ≢ 3) × (status ≢ 8)

-- behind an answer the output slots that words open are closed
abbrev pub AreClosed : List (List ℕ) → ℕ → State → Type 0
AreClosed words status new = (status ≡ 0) ⊎ (status ≡ 8) → (slot : Slot) → is_output slot ≡ true → opens (files_opened words) slot ≡ true →
    (new.slot_of slot).is_open ≡ false

-- the defined outcome is known
pub record Answered (told : Told) (words : List (List ℕ)) (reply : Reply) (old new : State) : Type 0 where
  pub used : Slot → Bool
  pub leaves : Leaves told words used old new
  pub counts : (slot : Slot) → (new.slot_of slot).faults ≡ (old.slot_of slot).faults
  pub known : Contains (answers_of (meaning words)) (code_of reply.status)
  pub within : (slot : Slot) → used slot ≡ true → may_change words (code_of reply.status) slot ≡ true
  pub closed : AreClosed words (code_of reply.status) new
  pub stands : IsTold told words → Stands told words reply old new

-- a call on a file failed
pub record Faulted (told : Told) (words : List (List ℕ)) (old new : State) : Type 0 where
  pub used : Slot → Bool
  pub leaves : Leaves told words used old new
  pub cause : FaultCause told words old new

-- no memory was to be had
pub record Starved (told : Told) (words : List (List ℕ)) (old new : State) : Type 0 where
  pub used : Slot → Bool
  pub leaves : Leaves told words used old new
  pub counts : (slot : Slot) → (new.slot_of slot).faults ≡ (old.slot_of slot).faults
  pub early : IsTold told words → (spec trace : List ℕ) (workers : ℕ) →
      meaning words ≡ Ok (command.Judge spec trace workers) → LeavesTrace spec trace old new

abbrev pub IsUnanswered : Stop → Told → List (List ℕ) → State → State → Type 0
IsUnanswered Fault told words old new = Faulted told words old new
IsUnanswered Memory told words old new = Starved told words old new

-- a reply to whichever words mean a command
abbrev pub AnswersTo : Told → Command → Reply → State → State → Type 0
AnswersTo told c reply old new = (words : List (List ℕ)) → meaning words ≡ Ok c → Answered told words reply old new

abbrev pub StopsAt : Told → Command → Stop → State → State → Type 0
StopsAt told c stop old new = (words : List (List ℕ)) → meaning words ≡ Ok c → IsUnanswered stop told words old new
