-- What the parts of `explain` answer and leave.
use Rattle.std.specs.Prelude.{◌≡◌, ◌≢◌, ◌⊎◌, ℕ, ◌<◌, ◌≤◌, List, [], ◌∷◌, length, true, false, Some, IsTrue}
use Rattle.ccsl_base.specs.Clocks.{ticks_in}
use Rattle.ccsl_edge.specs.declared.slot.Slot.{Slot}
use Rattle.ccsl_edge.specs.declared.slot.Slot.TheVariants.{Trace, CertOut}
use Rattle.ccsl_edge.specs.World.{State, Told, held, file_at}
use Rattle.ccsl_kernel.specs.Syntax.{System, item_count}
use Rattle.ccsl_formula.specs.Formula.{Formula}
use Rattle.ccsl_refute.specs.declared.line.Line.{Line}
use Rattle.ccsl_items.specs.Formulas.{scope_of}
use Rattle.ccsl_explain.specs.Explained.{IsPossible, IsExplained}
use Rattle.ccsl_report.specs.Texts.{explain_open_text}
use Rattle.ccsl_edge.specs.declared.stop.Stop.{Stop}
use Rattle.ccsl_edge.specs.declared.stop.Stop.TheVariants as stop
use Rattle.ccsl_top.specs.declared.reply.Reply.{Reply}
use Rattle.ccsl_top.specs.Outcome.{Output, Outcome, outcome}
use Rattle.ccsl_top.specs.Explain.{cert_output, blocked_outcome, IsExplainOutcome}
use Rattle.ccsl_top.specs.Effects.{RoseAt}
use Rattle.ccsl_top.specs.Changes.{Reads}
use Rattle.ccsl_top.specs.Reading.{only, Breaks}
use Rattle.ccsl_top.specs.Headline.{IsKeptOrWhole, IsFrontOn}
use Rattle.ccsl_top.specs.Answered.{code_of, plain_reply}

-- each is an item, and beside it stands a set of named clocks
abbrev pub AreMembers : System → List ℕ → List (List ℕ) → Type 0
AreMembers K [] [] = Unit {0}
AreMembers K [] (s ∷ sets) = ⊥
AreMembers K (i ∷ is) [] = ⊥
AreMembers K (i ∷ is) (s ∷ sets) = (i < item_count K) × ((x : ℕ) → ticks_in x s ≡ true → x < length K.names) × AreMembers K is sets

-- a certificate of this name
abbrev pub file_of : List ℕ → List ℕ → Output
file_of name content = record { slot = CertOut; name = name; content = content }

-- WRITING ONE FILE, the certificate, under a name
module _ (told : Told) (file : Output) (old new : State) where
  abbrev pub IsThis : Output → Type 0
  IsThis o = o ≡ file

  -- only its slot has changed, and the file of its name, which is as it was or whole; the slot holds a front
  pub record WritesSome : Type 0 where
    pub others : (slot : Slot) → slot ≢ CertOut → new.slot_of slot ≡ old.slot_of slot
    pub rises : (old.slot_of CertOut).faults ≤ (new.slot_of CertOut).faults
    pub files : IsTrue told.files → IsTrue told.written → (name : List ℕ) → name ≢ file.name → file_at new.files name ≡ file_at old.files name
    pub whole : IsTrue told.files → IsTrue told.written → (name : List ℕ) → IsKeptOrWhole IsThis old new name
    pub front : IsTrue told.written → IsFrontOn IsThis old new CertOut

  -- it was written and closed, and no call failed
  pub record WritesWhole : Type 0 where
    pub some : WritesSome
    pub closed : (new.slot_of CertOut).is_open ≡ false
    pub counts : (new.slot_of CertOut).faults ≡ (old.slot_of CertOut).faults
    pub holds : IsTrue told.files → IsTrue told.written → file_at new.files file.name ≡ Some file.content

  -- a call failed
  pub record WritesBreak : Type 0 where
    pub some : WritesSome
    pub rose : RoseAt CertOut old new

  -- no call was made where no memory was to be had
  abbrev pub IsWriteStop : Stop → Type 0
  IsWriteStop stop.Fault = WritesBreak
  IsWriteStop stop.Memory = new ≡ old

-- it was written, and this is reported
pub record BlockedAnswers (told : Told) (file : Output) (report : List ℕ) (reply : Reply) (old new : State) : Type 0 where
  pub status : code_of reply.status ≡ 0
  pub report_is : reply.line.items ≡ report
  pub writes : WritesWhole told file old new

module _ (told : Told) (K : System) (cert : List ℕ) where
  -- BEHIND A RUN of so many steps, where the items have these formulas
  module _ (steps : ℕ) (formulas : List Formula) (old new : State) where
    -- a step is possible, and nothing has changed; or items block, and the certificate was written
    pub data RunAnswers (reply : Reply) : Type 0 where
      possible : (step : List ℕ) (one : IsPossible (scope_of K) formulas step) (is : plain_reply reply ≡ outcome 1 (explain_open_text steps))
          (same : new ≡ old) → RunAnswers reply
      blocked : (core : List ℕ) (lines : List Line) (without : List (List ℕ)) (why : IsExplained (scope_of K) formulas core lines without)
          (status : code_of reply.status ≡ 0) (report : reply.line.items ≡ (blocked_outcome K cert steps core lines without).report)
          (writes : WritesWhole told (cert_output K cert lines) old new) → RunAnswers reply

  module _ (formulas : List Formula) (old new : State) where
    -- items block, and a call on the certificate failed
    pub record RunBreaks : Type 0 where
      pub core : List ℕ
      pub lines : List Line
      pub without : List (List ℕ)
      pub why : IsExplained (scope_of K) formulas core lines without
      pub writes : WritesBreak told (cert_output K cert lines) old new

    abbrev pub IsRunStop : Stop → Type 0
    IsRunStop stop.Fault = RunBreaks
    IsRunStop stop.Memory = new ≡ old

  -- ON THE TRACE OF A NAME
  module _ (trace : List ℕ) (old new : State) where
    -- this is the answer, where the world tells the trace
    abbrev pub IsAnswered : Outcome → Type 0
    IsAnswered o = IsTrue told.files → IsTrue told.left → IsExplainOutcome K cert (held old.files trace) o

    -- the trace was read, and items block
    pub record IsBlocked (Writes : Output → State → State → Type 0) : Type 0 where
      pub between : State
      pub reads : Reads (only Trace) old between
      pub steps : ℕ
      pub core : List ℕ
      pub lines : List Line
      pub without : List (List ℕ)
      pub is : IsAnswered (blocked_outcome K cert steps core lines without)
      pub writes : Writes (cert_output K cert lines) between new

    -- the trace alone was used; or the certificate was written, and the answer is that of items that block
    pub data TraceAnswers (reply : Reply) : Type 0 where
      unwritten : (reads : Reads (only Trace) old new) (status : ((plain_reply reply).status ≡ 1) ⊎ ((plain_reply reply).status ≡ 4))
          (is : IsAnswered (plain_reply reply)) → TraceAnswers reply
      written : (all : IsBlocked (WritesWhole told)) (status : code_of reply.status ≡ 0)
          (report : reply.line.items ≡ (blocked_outcome K cert all.steps all.core all.lines all.without).report) → TraceAnswers reply

    abbrev pub IsTraceStop : Stop → Type 0
    IsTraceStop stop.Fault = Breaks Trace old new ⊎ IsBlocked (WritesBreak told)
    IsTraceStop stop.Memory = Reads (only Trace) old new
