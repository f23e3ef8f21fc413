-- WHAT CHECKING A CERTIFICATE ANSWERS: the trace is read first, to its end, and then the certificate.
use Rattle.std.specs.Prelude.{◌≡◌, ◌⊎◌, ℕ, List, true, Some, Ok, Err}
use Rattle.ccsl_base.specs.declared.rows.Row.{Row}
use Rattle.ccsl_edge.specs.declared.slot.Slot.TheVariants.{Cert as CertSlot}
use Rattle.ccsl_edge.specs.World.{State, Told}
use Rattle.ccsl_edge.specs.Calls.{ReadsAll, ReadsTooMuch, ReadsIntoFault, ReadsPart}
use Rattle.ccsl_refute.specs.declared.line.Line.{Line}
use Rattle.ccsl_refute.specs.declared.fault.CertFault.{CertFault}
use Rattle.ccsl_refute.specs.Reading.{reading}
use Rattle.ccsl_refute.specs.Validity.{is_certificate, first_bad_line}
use Rattle.ccsl_kernel.specs.Syntax.{System}
use Rattle.ccsl_kernel.specs.Verdict.{completed_rows, verdict}
use Rattle.ccsl_kernel.specs.Verdict as verdicts
use Rattle.ccsl_bind.specs.Collected.{wanted_of}
use Rattle.ccsl_vcd.specs.declared.limits.Limits.{Limits}
use Rattle.ccsl_items.specs.Formulas.{item_formulas, scope_of}
use Rattle.ccsl_relate.specs.Watching.{are_sets}
use Rattle.ccsl_trace.specs.Traces.{IsRefused, IsNearHeader}
use Rattle.ccsl_trace.specs.Traces as traces
use Rattle.ccsl_certify.specs.declared.answer.CertVerdict.{CertVerdict}
use Rattle.ccsl_certify.specs.declared.answer.CertVerdict.TheVariants.{Yes, NotRun, BadLine}
use Rattle.ccsl_certify.specs.declared.answer.CertifyFault.{CertifyFault}
use Rattle.ccsl_certify.specs.declared.answer.CertifyFault.TheVariants.{Fault, Refused, Cert, CertTooLong, Memory}
use Rattle.ccsl_certify.specs.Replaying.{IsTrace}

-- the answer on a trace and the lines of a certificate: that the trace is no run comes before what is wrong with the lines, which are
-- checked against the formulas of all items after the last row
abbrev pub Answers : System → List ℕ → List Row → List Line → CertVerdict → Type 0
Answers K bound rows lines (Yes steps) =
    (verdict K bound rows ≡ verdicts.Run steps) × (is_certificate (scope_of K) (item_formulas K (completed_rows K rows)) lines ≡ true)
Answers K bound rows lines (NotRun v) = verdict K bound rows ≡ verdicts.Violated v.step v.time v.item
Answers K bound rows lines (BadLine j) =
    ((steps : ℕ) × (verdict K bound rows ≡ verdicts.Run steps)) × (first_bad_line (scope_of K) (item_formulas K (completed_rows K rows)) lines ≡ Some j)

module _ (told : Told) (K : System) (limits : Limits) (old new : State) where
  -- the trace was read whole, and then the certificate
  pub record AreRead (bound : List ℕ) (rows : List Row) (text : List ℕ) : Type 0 where
    pub between : State
    pub trace : IsTrace told K limits old between bound rows
    pub certificate : ReadsAll told CertSlot limits.bytes text between new

  pub record IsCertified (v : CertVerdict) : Type 0 where
    pub bound : List ℕ
    pub rows : List Row
    pub text : List ℕ
    pub lines : List Line
    pub read : AreRead bound rows text
    pub sets : are_sets rows ≡ true
    pub reads_as : reading K.names text ≡ Ok lines
    pub answers : Answers K bound rows lines v

  -- the trace was read whole, and behind it the certificate was not
  pub record ReadsTraceAlone (Reads : State → State → Type 0) : Type 0 where
    pub bound : List ℕ
    pub rows : List Row
    pub between : State
    pub trace : IsTrace told K limits old between bound rows
    pub reads : Reads between new

  -- the certificate was read whole, and it does not read
  pub record DoesNotRead (f : CertFault) : Type 0 where
    pub bound : List ℕ
    pub rows : List Row
    pub text : List ℕ
    pub read : AreRead bound rows text
    pub reads_as : reading K.names text ≡ Err f

  -- Each answer but a verdict has its cause, in the order in which the files are read. Memory is wanted near the trace's header, or behind it.
  abbrev pub IsUncertified : CertifyFault → Type 0
  IsUncertified Fault = traces.Fails told (wanted_of K) limits old new ⊎ ReadsTraceAlone (ReadsIntoFault told CertSlot limits.bytes)
  IsUncertified (Refused f) = IsRefused told (wanted_of K) limits old new f
  IsUncertified (Cert f) = DoesNotRead f
  IsUncertified CertTooLong = ReadsTraceAlone (ReadsTooMuch told CertSlot limits.bytes)
  IsUncertified Memory = IsNearHeader told (wanted_of K) limits old new ⊎ ReadsTraceAlone (ReadsPart told CertSlot limits.bytes)
