-- What the parts of `simulate` answer and leave.
use Rattle.std.specs.Prelude.{◌≡◌, ◌≢◌, ◌⊎◌, ℕ, ◌<◌, List, length, true, false, Some, IsTrue}
use Rattle.ccsl_edge.specs.declared.slot.Slot.{Slot}
use Rattle.ccsl_edge.specs.declared.slot.Slot.TheVariants.{TraceOut, CertOut}
use Rattle.ccsl_edge.specs.World.{State, Told, file_at}
use Rattle.ccsl_kernel.specs.Syntax.{System}
use Rattle.ccsl_policy.specs.declared.policies.Policy.{Policy}
use Rattle.ccsl_vcd_write.specs.Text.{vcd_text}
use Rattle.ccsl_simulate.specs.declared.answer.Done.{Done}
use Rattle.ccsl_simulate.specs.declared.answer.Done.TheVariants.{Full, Deadlock}
use Rattle.ccsl_report.specs.Texts.{simulated_text, deadlocked_text}
use Rattle.ccsl_edge.specs.declared.stop.Stop.{Stop}
use Rattle.ccsl_edge.specs.declared.stop.Stop.TheVariants as stop
use Rattle.ccsl_top.specs.declared.reply.Reply.{Reply}
use Rattle.ccsl_top.specs.Outcome.{outcome}
use Rattle.ccsl_top.specs.Opening.{is_output}
use Rattle.ccsl_top.specs.Simulate.{run, IsCertificate, IsOutput}
use Rattle.ccsl_top.specs.Effects.{RoseAt}
use Rattle.ccsl_top.specs.Changes.{WritesAlone}
use Rattle.ccsl_top.specs.Headline.{IsKeptOrWhole, IsFrontOn}
use Rattle.ccsl_top.specs.Answered.{plain_reply}

-- the reply on how a simulation of so many steps ended
abbrev pub IsDoneReply : Done → ℕ → Reply → Type 0
IsDoneReply Full steps reply = plain_reply reply ≡ outcome 0 (simulated_text steps)
IsDoneReply (Deadlock at) steps reply = plain_reply reply ≡ outcome 8 (deadlocked_text at)

-- a run of so many steps, of those that were wanted, ends so
abbrev pub IsEnd : ℕ → ℕ → Done → Type 0
IsEnd count steps Full = count ≡ steps
IsEnd count steps (Deadlock at) = (count ≡ at) × (count < steps)

module _ (told : Told) (K : System) (policy : Policy) (seed steps : ℕ) (trace cert : List ℕ) (old new : State) where
  -- nothing but the output slots and the two files has changed; each file is as it was or whole, and each slot holds a front
  pub record WritesSome : Type 0 where
    pub alone : WritesAlone old new
    pub others : IsTrue told.files → IsTrue told.written → (name : List ℕ) → name ≢ trace → name ≢ cert →
        file_at new.files name ≡ file_at old.files name
    pub whole : IsTrue told.files → IsTrue told.written → (name : List ℕ) →
        IsKeptOrWhole (IsOutput K policy seed steps trace cert) old new name
    pub fronts : IsTrue told.written → (slot : Slot) → is_output slot ≡ true →
        IsFrontOn (IsOutput K policy seed steps trace cert) old new slot

  -- both files were written and closed, and no call failed
  pub record WritesBoth (done : Done) : Type 0 where
    pub some : WritesSome
    pub closed : (slot : Slot) → is_output slot ≡ true → (new.slot_of slot).is_open ≡ false
    pub counts : (slot : Slot) → (new.slot_of slot).faults ≡ (old.slot_of slot).faults
    pub ends : IsEnd (length (run K policy seed steps)) steps done
    pub text : List ℕ
    pub valid : IsCertificate K policy seed steps text
    pub trace_holds : trace ≢ cert → IsTrue told.files → IsTrue told.written →
        file_at new.files trace ≡ Some (vcd_text K (run K policy seed steps))
    pub cert_holds : IsTrue told.files → IsTrue told.written → file_at new.files cert ≡ Some text

  -- a call on one of the slots failed
  pub record WriteBreaks : Type 0 where
    pub some : WritesSome
    pub rose : RoseAt TraceOut old new ⊎ RoseAt CertOut old new

  -- no memory was to be had
  pub record WriteStarves : Type 0 where
    pub some : WritesSome
    pub counts : (slot : Slot) → (new.slot_of slot).faults ≡ (old.slot_of slot).faults

  abbrev pub IsWriteStop : Stop → Type 0
  IsWriteStop stop.Fault = WriteBreaks
  IsWriteStop stop.Memory = WriteStarves
