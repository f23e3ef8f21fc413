-- What the parts of `judge` answer and leave.
use Rattle.std.specs.Prelude.{◌≡◌, ◌⊎◌, List, Result, Ok, Err, IsOkAnd, IsTrue, ℕ}
use Rattle.ccsl_edge.specs.declared.slot.Slot.TheVariants.{Trace}
use Rattle.ccsl_edge.specs.World.{State, Told, held}
use Rattle.ccsl_kernel.specs.Syntax.{System}
use Rattle.ccsl_trace.specs.declared.fault.TraceFault.{TraceFault}
use Rattle.ccsl_trace.specs.declared.fault.TraceFault.TheVariants as fault
use Rattle.ccsl_judge.specs.declared.verdict.Verdict.{Verdict}
use Rattle.ccsl_judge.specs.Judged.{plain}
use Rattle.ccsl_report.specs.Texts.{trace_text}
use Rattle.ccsl_edge.specs.declared.stop.Stop.{Stop}
use Rattle.ccsl_edge.specs.declared.stop.Stop.TheVariants as stop
use Rattle.ccsl_top.specs.declared.reply.Reply.{Reply}
use Rattle.ccsl_top.specs.Outcome.{outcome}
use Rattle.ccsl_top.specs.Judge.{verdict_outcome}
use Rattle.ccsl_top.specs.Changes.{Reads}
use Rattle.ccsl_top.specs.Reading.{only, Breaks}
use Rattle.ccsl_top.specs.Headline.{EndsNearHeader}
use Rattle.ccsl_top.specs.Answered.{plain_reply}

-- the reply on what judging a trace has come to
abbrev pub IsReplyOn : System → Result Verdict TraceFault → Result Reply Stop → Type 0
IsReplyOn K (Ok v) found = IsOkAnd found (λ reply. plain_reply reply ≡ verdict_outcome K (plain v))
IsReplyOn K (Err (fault.Refused f)) found = IsOkAnd found (λ reply. plain_reply reply ≡ outcome 4 (trace_text f K))
IsReplyOn K (Err fault.Fault) found = found ≡ Err stop.Fault
IsReplyOn K (Err fault.Memory) found = found ≡ Err stop.Memory

-- no memory was to be had while a trace was read for a system: it was not opened, or read near its header alone
pub record StarvesAt (told : Told) (K : System) (trace : List ℕ) (old new : State) : Type 0 where
  pub reads : Reads (only Trace) old new
  pub early : IsTrue told.files → IsTrue told.left →
      (new.slot_of Trace ≡ old.slot_of Trace) ⊎ EndsNearHeader K (held old.files trace) (new.slot_of Trace).left

abbrev pub IsTraceStop : Stop → Told → System → List ℕ → State → State → Type 0
IsTraceStop stop.Fault told K trace old new = Breaks Trace old new
IsTraceStop stop.Memory told K trace old new = StarvesAt told K trace old new
