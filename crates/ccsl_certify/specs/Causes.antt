-- How the faults of what is read are answered.
use Rattle.ccsl_edge.specs.declared.whole.ReadFault.{ReadFault}
use Rattle.ccsl_edge.specs.declared.whole.ReadFault.TheVariants as reads
use Rattle.ccsl_refute.specs.declared.fault.CertFault.{CertFault}
use Rattle.ccsl_refute.specs.declared.fault.CertFault.TheVariants as texts
use Rattle.ccsl_trace.specs.declared.fault.TraceFault.{TraceFault}
use Rattle.ccsl_trace.specs.declared.fault.TraceFault.TheVariants as traces
use Rattle.ccsl_certify.specs.declared.answer.CertifyFault.{CertifyFault}
use Rattle.ccsl_certify.specs.declared.answer.CertifyFault.TheVariants.{Fault, Refused, Cert, CertTooLong, Memory}

abbrev pub of_trace : TraceFault → CertifyFault
of_trace traces.Fault = Fault
of_trace (traces.Refused f) = Refused f
of_trace traces.Memory = Memory

abbrev pub of_reading : ReadFault → CertifyFault
of_reading reads.Fault = Fault
of_reading reads.TooLong = CertTooLong
of_reading reads.Memory = Memory

abbrev pub of_text : CertFault → CertifyFault
of_text texts.Memory = Memory
of_text f = Cert f
