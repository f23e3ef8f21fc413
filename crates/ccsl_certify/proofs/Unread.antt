-- What a trace and a certificate are answered where one of the two is not read.
use Rattle.std.proofs.Common.{◌≡◌, ℕ, List, Err, Vec, Global, inl, inr}
use Rattle.ccsl_base.specs.declared.rows.Row.{Row}
use Rattle.ccsl_edge.specs.declared.slot.Slot.TheVariants.{Cert}
use Rattle.ccsl_edge.specs.declared.whole.ReadFault.{ReadFault}
use Rattle.ccsl_edge.specs.declared.whole.ReadFault.TheVariants as reads
use Rattle.ccsl_edge.specs.World.{State, Told}
use Rattle.ccsl_edge.specs.Calls.{ReadsAll, ReadsUntil}
use Rattle.ccsl_refute.specs.declared.fault.CertFault.{CertFault}
use Rattle.ccsl_refute.specs.declared.fault.CertFault.TheVariants as texts
use Rattle.ccsl_refute.specs.declared.line.Line.{Line}
use Rattle.ccsl_refute.specs.Read.{Reads}
use Rattle.ccsl_refute.specs.Reading.{reading}
use Rattle.ccsl_kernel.specs.Syntax.{System}
use Rattle.ccsl_bind.specs.Collected.{wanted_of}
use Rattle.ccsl_vcd.specs.declared.limits.Limits.{Limits}
use Rattle.ccsl_trace.specs.declared.fault.TraceFault.{TraceFault}
use Rattle.ccsl_trace.specs.declared.fault.TraceFault.TheVariants as traces
use Rattle.ccsl_trace.specs.Traces.{IsUnread}
use Rattle.ccsl_certify.specs.declared.answer.CertifyFault.TheVariants.{Memory}
use Rattle.ccsl_certify.specs.Causes.{of_trace, of_reading, of_text}
use Rattle.ccsl_certify.specs.Certified.{IsUncertified}
use Rattle.ccsl_certify.specs.Replaying.{IsTrace}

pub trace-unread : (told : Told) (K : System) (limits : Limits) (old new : State) (fault : TraceFault)
    → IsUnread told (wanted_of K) limits old new fault → IsUncertified told K limits old new (of_trace fault)
trace-unread told K limits old new traces.Fault unread = inl unread
trace-unread told K limits old new (traces.Refused f) unread = unread
trace-unread told K limits old new traces.Memory unread = inl unread

-- behind a trace that was read
module _ (told : Told) (K : System) (limits : Limits) (old between new : State) (bound : List ℕ) (rows : List Row)
    (trace : IsTrace told K limits old between bound rows) where
  pub bytes-unread : (fault : ReadFault) → ReadsUntil fault told Cert limits.bytes between new → IsUncertified told K limits old new (of_reading fault)
  bytes-unread reads.Fault until = inr (record { bound = bound; rows = rows; between = between; trace = trace; reads = until })
  bytes-unread reads.TooLong until = record { bound = bound; rows = rows; between = between; trace = trace; reads = until }
  bytes-unread reads.Memory until = inr (record { bound = bound; rows = rows; between = between; trace = trace; reads = until })

  pub for-memory : (text : List ℕ) → ReadsAll told Cert limits.bytes text between new → IsUncertified told K limits old new Memory
  for-memory text all =
      inr (record { bound = bound; rows = rows; between = between; trace = trace; reads = record { bytes = text; within = all.within; reads = all.reads } })

  pub lines-unread : (names : List (List ℕ)) (bytes text : List ℕ) (fault : CertFault) → names ≡ K.names → bytes ≡ text
      → ReadsAll told Cert limits.bytes text between new
      → Reads {A = Vec Line Global} (λ v. v.items) (reading names bytes) (Err fault) → IsUncertified told K limits old new (of_text fault)
  lines-unread names bytes text texts.Memory own same all e = for-memory text all
  lines-unread names bytes text (texts.Syntax at) own same all e =
      record { bound = bound; rows = rows; text = text; read = record { between = between; trace = trace; certificate = all }; reads_as = cc }
  lines-unread names bytes text (texts.UnknownName at) own same all e =
      record { bound = bound; rows = rows; text = text; read = record { between = between; trace = trace; certificate = all }; reads_as = cc }
