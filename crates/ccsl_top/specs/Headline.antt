-- THE PROMISE OF THE PROGRAM'S ONE CALL, each sentence a field: what stands after it, from the words, the world before and the
-- world after, and the status.
use Rattle.std.specs.Prelude.{◌≡◌, ◌≢◌, ◌⊎◌, ℕ, ◌+◌, ◌≤◌, List, [], ◌∷◌, ◌++◌, length, take, true, false, Some, Ok, IsTrue}
use Rattle.ccsl_base.specs.declared.limits.TheConstants.{MAX_FILE_BYTES}
use Rattle.ccsl_edge.specs.declared.slot.Slot.{Slot}
use Rattle.ccsl_edge.specs.declared.slot.Slot.TheVariants.{Spec, Trace, Input, Report, TraceOut, CertOut}
use Rattle.ccsl_edge.specs.World.{State, Told, file_at, held}
use Rattle.ccsl_command.specs.declared.command.Command.TheVariants as command
use Rattle.ccsl_command.specs.Meaning.{meaning}
use Rattle.ccsl_command.specs.declared.table.PolicyName.{PolicyName}
use Rattle.ccsl_command.specs.Opened.{Opened, files_opened}
use Rattle.ccsl_kernel.specs.Syntax.{System}
use Rattle.ccsl_spec.specs.Specifications.{IsSystemOf}
use Rattle.ccsl_base.specs.declared.limits.TheConstants.{PIECE}
use Rattle.ccsl_session.specs.Rest.{LeavesRest}
use Rattle.ccsl_top.specs.Outcome.{Output, Outcome}
use Rattle.ccsl_top.specs.Simulate.{named_policy, IsOutput}
use Rattle.ccsl_top.specs.Explain.{IsExplainOutcome}
use Rattle.ccsl_bind.specs.Collected.{wanted_of}
use Rattle.ccsl_trace.specs.HeaderEnd.{ends_header}
use Rattle.ccsl_vcd.specs.declared.limits.TheConstants.{LIMITS}
use Rattle.ccsl_top.specs.Program.{IsOutcome}
use Rattle.ccsl_top.specs.Statuses.{IsStatusOf}
use Rattle.ccsl_top.specs.Opening.{opens, writes, is_output, is_session, may_change}
use Rattle.ccsl_top.specs.Effects.{RoseAt}

-- the world tells what the words read: nothing, or the files, a specification among them, and the bytes that are left of each input
abbrev pub IsTold : Told → List (List ℕ) → Type 0
IsTold told words = opens (files_opened words) Spec ≡ true → IsTrue told.files × IsTrue told.left

-- the bytes that are left of standard input
abbrev pub input_of : State → List ℕ
input_of world = (world.slot_of Input).left

-- the report has grown by this text, where the world tells what was written
abbrev pub ReportGrows : Told → State → State → List ℕ → Type 0
ReportGrows told old new text = IsTrue told.written → (new.slot_of Report).written ≡ (old.slot_of Report).written ++ text

-- each file that is written holds its content
abbrev pub AreHeld : List (List ℕ × List ℕ) → List Output → Type 0
AreHeld files [] = Unit {0}
AreHeld files (f ∷ fs) = (file_at files f.name ≡ Some f.content) × AreHeld files fs

-- the report has grown by a part of the text of an outcome of the words
pub record Reports (told : Told) (words : List (List ℕ)) (old new : State) (part_of : List ℕ → List ℕ) : Type 0 where
  pub outcome : Outcome
  pub is : IsOutcome words (held old.files) (input_of old) outcome
  pub grows : ReportGrows told old new (part_of outcome.report)

-- an outcome was answered and reported as a whole, and its files were written
pub record Answers (told : Told) (words : List (List ℕ)) (status : ℕ) (old new : State) : Type 0 where
  pub reports : Reports told words old new (λ text. text)
  pub status_is : status ≡ reports.outcome.status
  pub files : IsTrue told.written → AreHeld new.files reports.outcome.outputs

-- the words name an accepted specification
abbrev pub IsAcceptedSpec : List (List ℕ × List ℕ) → List ℕ → Type 0
IsAcceptedSpec files spec = (K : System) × IsSystemOf (held files spec) K

-- status 5 comes only where a call on the report failed; or, with words that open one, on the specification; or, with an accepted
-- specification, on another file that the words open, or in a session on standard input
pub data FaultCause (told : Told) (words : List (List ℕ)) (old new : State) : Type 0 where
  by_report : (rose : RoseAt Report old new) → FaultCause told words old new
  by_spec : (opened : opens (files_opened words) Spec ≡ true) (rose : RoseAt Spec old new) → FaultCause told words old new
  by_file : (spec : List ℕ) (others : List Opened) (opened : files_opened words ≡ record { slot = Spec; name = spec } ∷ others)
      (accepted : IsTrue told.files → IsTrue told.left → IsAcceptedSpec old.files spec)
      (slot : Slot) (opens_it : opens others slot ≡ true) (rose : RoseAt slot old new) → FaultCause told words old new
  by_input : (spec : List ℕ) (policy : PolicyName) (seed : ℕ) (means : meaning words ≡ Ok (command.Session spec policy seed))
      (accepted : IsTrue told.files → IsTrue told.left → IsAcceptedSpec old.files spec)
      (rose : RoseAt Input old new) → FaultCause told words old new

-- of this trace at most one piece past its header's end was read
pub record EndsNearHeader (K : System) (trace left : List ℕ) : Type 0 where
  pub bytes : List ℕ
  pub taken : trace ≡ bytes ++ left
  pub near : (n : ℕ) → ends_header (wanted_of K) LIMITS (take n bytes) ≡ true → length bytes ≤ n + PIECE

-- the trace was not opened, or read near its header alone
pub data LeavesTrace (spec trace : List ℕ) (old new : State) : Type 0 where
  unopened : (same : new.slot_of Trace ≡ old.slot_of Trace) → LeavesTrace spec trace old new
  near_header : (K : System) (accepted : IsSystemOf (held old.files spec) K) (near : EndsNearHeader K (held old.files trace) (new.slot_of Trace).left) →
      LeavesTrace spec trace old new

-- the words simulate, or explain, on an accepted specification, and this is what they write through a slot
pub data IsDefinedOutput (words : List (List ℕ)) (files : List (List ℕ × List ℕ)) (output : Output) : Type 0 where
  simulated : (spec : List ℕ) (policy : PolicyName) (seed steps : ℕ) (trace cert : List ℕ)
      (means : meaning words ≡ Ok (command.Simulate spec policy seed steps trace cert)) (K : System) (accepted : IsSystemOf (held files spec) K)
      (is : IsOutput K (named_policy policy) seed steps trace cert output) → IsDefinedOutput words files output
  explained : (spec trace cert : List ℕ) (means : meaning words ≡ Ok (command.Explain spec trace cert)) (K : System)
      (accepted : IsSystemOf (held files spec) K) (outcome : Outcome) (explains : IsExplainOutcome K cert (held files trace) outcome)
      (is : outcome.outputs ≡ output ∷ []) → IsDefinedOutput words files output

-- a file is as it was, or it holds the whole of what is defined for it
pub data IsKeptOrWhole (IsDefined : Output → Type 0) (old new : State) (name : List ℕ) : Type 0 where
  kept : (is : file_at new.files name ≡ file_at old.files name) → IsKeptOrWhole IsDefined old new name
  whole : (output : Output) (is : IsDefined output) (named : output.name ≡ name)
      (holds : file_at new.files name ≡ Some output.content) → IsKeptOrWhole IsDefined old new name

-- what stands written on a slot is what stood there, or a front of what is defined for it
pub data IsFrontOn (IsDefined : Output → Type 0) (old new : State) (slot : Slot) : Type 0 where
  untouched : (is : (new.slot_of slot).written ≡ (old.slot_of slot).written) → IsFrontOn IsDefined old new slot
  part : (output : Output) (is : IsDefined output) (through : output.slot ≡ slot) (count : ℕ)
      (is_front : (new.slot_of slot).written ≡ take count output.content) → IsFrontOn IsDefined old new slot

pub record Headline (told : Told) (words : List (List ℕ)) (status : ℕ) (old new : State) : Type 0 where
  -- THE STATUS is one that the command may answer
  pub known : IsStatusOf (meaning words) status
  -- THE OUTCOME: where the world tells what the words read, a status that is neither 5 nor 6 is the defined one, the report has grown
  -- by exactly the defined text, and the files that are written hold the defined content
  pub defined : IsTold told words → status ≢ 5 → status ≢ 6 → Answers told words status old new
  -- FAULTS of files: no count falls, and every count is as it was unless the status is 5
  pub counts_rise : (slot : Slot) → (old.slot_of slot).faults ≤ (new.slot_of slot).faults
  pub counts_stay : status ≢ 5 → (slot : Slot) → (new.slot_of slot).faults ≡ (old.slot_of slot).faults
  pub fault_cause : status ≡ 5 → FaultCause told words old new
  -- THE REPORT where there is no answer: at 5 nothing, unless a call on it failed; at 6 nothing; in a session what was answered so far;
  -- and in all a front of the defined text
  pub unreported : status ≡ 5 → is_session (meaning words) ≡ false → (new.slot_of Report ≡ old.slot_of Report) ⊎ RoseAt Report old new
  pub silent : status ≡ 6 → is_session (meaning words) ≡ false → new.slot_of Report ≡ old.slot_of Report
  pub front : IsTold told words → (status ≡ 5) ⊎ (status ≡ 6) →
      ((new.slot_of Report).written ≡ (old.slot_of Report).written) ⊎ ((count : ℕ) × Reports told words old new (take count))
  -- WANT OF MEMORY comes no later than one piece past the header's end of a trace that is judged
  pub early : IsTold told words → status ≡ 6 → (spec trace : List ℕ) (workers : ℕ) →
      meaning words ≡ Ok (command.Judge spec trace workers) → LeavesTrace spec trace old new
  -- FILES THAT ARE WRITTEN: at every status each file is as it was, or holds the whole of what is defined for it, and what was put
  -- on a slot is a front of that; behind an answer the slots are closed
  pub whole : IsTold told words → IsTrue told.written → (name : List ℕ) → IsKeptOrWhole (IsDefinedOutput words old.files) old new name
  pub fronts : IsTold told words → IsTrue told.written → (slot : Slot) → is_output slot ≡ true →
      IsFrontOn (IsDefinedOutput words old.files) old new slot
  pub closed : (status ≡ 0) ⊎ (status ≡ 8) → (slot : Slot) → is_output slot ≡ true → opens (files_opened words) slot ≡ true →
      (new.slot_of slot).is_open ≡ false
  -- OF STANDARD INPUT no more is gone than a session asks for
  pub rest : IsTrue told.left → (new.slot_of Input ≡ old.slot_of Input) ⊎ LeavesRest MAX_FILE_BYTES (input_of old) (input_of new)
  -- WHAT STAYS: each slot but the report's that a run with this status does not reach; every file, where it reaches no output slot;
  -- and every file that the words do not open for writing
  pub stays : (slot : Slot) → slot ≢ Report → may_change words status slot ≡ false → new.slot_of slot ≡ old.slot_of slot
  pub unwritten : may_change words status TraceOut ≡ false → may_change words status CertOut ≡ false →
      (name : List ℕ) → file_at new.files name ≡ file_at old.files name
  pub files : IsTrue told.files → IsTrue told.written → (name : List ℕ) → writes (files_opened words) name ≡ false →
      file_at new.files name ≡ file_at old.files name
  -- of the slots that are read all but the bytes left and the faults, and of the report all but what was written and the faults
  pub read : (slot : Slot) → slot ≢ Report → is_output slot ≡ false →
      new.slot_of slot ≡ record (old.slot_of slot) { left = (new.slot_of slot).left; faults = (new.slot_of slot).faults }
  pub report : new.slot_of Report ≡ record (old.slot_of Report) { written = (new.slot_of Report).written; faults = (new.slot_of Report).faults }
