-- What the parts of `certify` answer and leave.
use Rattle.std.specs.Prelude.{◌≡◌, ◌⊎◌, ℕ, ◌<◌, Bool, ◌||◌, Result, Ok, Err, IfOk, IfErr, IsTrue, List, codes}
use Rattle.ccsl_edge.specs.declared.slot.Slot.{Slot}
use Rattle.ccsl_edge.specs.declared.slot.Slot.TheVariants.{Trace, Cert}
use Rattle.ccsl_edge.specs.World.{State, Told, held}
use Rattle.ccsl_kernel.specs.Syntax.{System, item_count}
use Rattle.ccsl_certify.specs.declared.answer.CertVerdict.{CertVerdict}
use Rattle.ccsl_certify.specs.declared.answer.CertVerdict.TheVariants.{Yes, NotRun, BadLine}
use Rattle.ccsl_certify.specs.declared.answer.CertifyFault.{CertifyFault}
use Rattle.ccsl_certify.specs.declared.answer.CertifyFault.TheVariants as fault
use Rattle.ccsl_report.specs.Texts.{trace_text, cert_text, cert_too_long_text, cert_valid_text, broken_text, cert_no_line_text}
use Rattle.ccsl_edge.specs.declared.stop.Stop.{Stop}
use Rattle.ccsl_edge.specs.declared.stop.Stop.TheVariants as stop
use Rattle.ccsl_top.specs.declared.reply.Reply.{Reply}
use Rattle.ccsl_top.specs.Outcome.{Outcome, outcome}
use Rattle.ccsl_top.specs.Certify.{certify_outcome}
use Rattle.ccsl_top.specs.Effects.{RoseAt}
use Rattle.ccsl_top.specs.Changes.{Uses, Reads}
use Rattle.ccsl_top.specs.Reading.{only}
use Rattle.ccsl_top.specs.Answered.{plain_reply, IsReadStatus}

-- the item of a verdict is one of the system's
abbrev pub HasItem : System → CertVerdict → Type 0
HasItem K (Yes steps) = Unit {0}
HasItem K (NotRun v) = v.item < item_count K
HasItem K (BadLine number) = Unit {0}

-- what a verdict is answered by
abbrev pub verdict_outcome : System → CertVerdict → Outcome
verdict_outcome K (Yes steps) = outcome 0 (cert_valid_text steps)
verdict_outcome K (NotRun v) = outcome 1 (broken_text (codes "certificate: ") v.step v.time v.item K)
verdict_outcome K (BadLine number) = outcome 1 (cert_no_line_text number)

-- this is answered, or no memory is to be had for its line
abbrev pub Gives : Outcome → Result Reply Stop → Type 0
Gives o found = (IfOk found (λ reply. plain_reply reply ≡ o)) × (IfErr found (λ s. s ≡ stop.Memory))

-- the reply on what checking a certificate has come to
abbrev pub IsReplyOn : System → Result CertVerdict CertifyFault → Result Reply Stop → Type 0
IsReplyOn K (Ok v) found = Gives (verdict_outcome K v) found
IsReplyOn K (Err (fault.Refused f)) found = Gives (outcome 4 (trace_text f K)) found
IsReplyOn K (Err (fault.Cert f)) found = Gives (outcome 4 (cert_text f)) found
IsReplyOn K (Err fault.CertTooLong) found = Gives (outcome 4 cert_too_long_text) found
IsReplyOn K (Err fault.Fault) found = found ≡ Err stop.Fault
IsReplyOn K (Err fault.Memory) found = found ≡ Err stop.Memory

-- the slots of the trace and of the certificate
abbrev pub both : Slot → Bool
both slot = only Trace slot || only Cert slot

-- both files were read as far as the answer needs, and it is the defined one
pub record CertifyAnswers (told : Told) (K : System) (trace cert : List ℕ) (reply : Reply) (old new : State) : Type 0 where
  pub reads : Reads both old new
  pub status : IsReadStatus (plain_reply reply).status
  pub is : IsTrue told.files → IsTrue told.left → plain_reply reply ≡ certify_outcome K (held old.files trace) (held old.files cert)

-- a call on one of them failed
pub record BothBreak (old new : State) : Type 0 where
  pub uses : Uses both old new
  pub rose : RoseAt Trace old new ⊎ RoseAt Cert old new

abbrev pub IsBothStop : Stop → State → State → Type 0
IsBothStop stop.Fault old new = BothBreak old new
IsBothStop stop.Memory old new = Reads both old new
