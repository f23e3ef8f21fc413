-- WHAT `certify` ANSWERS on an accepted specification and the bytes of a trace and of a certificate: the first case that holds.
use Rattle.std.specs.Prelude.{ℕ, List, length, Option, Some, None, Result, Ok, Err, nat_lt, if◌then◌else◌, codes}
use Rattle.ccsl_base.specs.declared.limits.TheConstants.{MAX_FILE_BYTES}
use Rattle.ccsl_base.specs.declared.rows.Row.{Row}
use Rattle.ccsl_kernel.specs.Syntax.{System}
use Rattle.ccsl_kernel.specs.Verdict.{Verdict, Run, Violated, completed_rows}
use Rattle.ccsl_refute.specs.declared.line.Line.{Line}
use Rattle.ccsl_refute.specs.declared.fault.CertFault.{CertFault}
use Rattle.ccsl_refute.specs.Validity.{first_bad_line}
use Rattle.ccsl_refute.specs.Reading as certificates
use Rattle.ccsl_items.specs.Formulas.{item_formulas, scope_of}
use Rattle.ccsl_vcd.specs.Reading.{reading}
use Rattle.ccsl_vcd.specs.Rows.{recorded}
use Rattle.ccsl_bind.specs.Collected.{wanted_of}
use Rattle.ccsl_report.specs.Texts.{cert_text, cert_too_long_text, cert_valid_text, broken_text, cert_no_line_text}
use Rattle.ccsl_top.specs.Outcome.{Outcome, outcome}
use Rattle.ccsl_vcd.specs.declared.limits.TheConstants.{LIMITS}
use Rattle.ccsl_top.specs.Judge.{judged, behind_fault}

-- the first line of a certificate that is bad, after these rows
abbrev pub bad_line : System → List Row → List Line → Option ℕ
bad_line K rows lines = first_bad_line (scope_of K) (item_formulas K (completed_rows K rows)) lines

-- both files read, and the trace is a run of so many steps: whether the lines are valid after it
abbrev pub lines_outcome : ℕ → Option ℕ → Outcome
lines_outcome steps (Some j) = outcome 1 (cert_no_line_text j)
lines_outcome steps None = outcome 0 (cert_valid_text steps)

-- both files read: whether the trace is a run
abbrev pub rows_outcome : System → List Row → List Line → Verdict → Outcome
rows_outcome K rows lines (Violated step time item) = outcome 1 (broken_text (codes "certificate: ") step time item K)
rows_outcome K rows lines (Run steps) = lines_outcome steps (bad_line K rows lines)

-- the trace reads: whether the certificate does
abbrev pub text_outcome : System → List ℕ → Result (List Line) CertFault → Outcome
text_outcome K trace (Err fault) = outcome 4 (cert_text fault)
text_outcome K trace (Ok lines) = rows_outcome K (recorded (wanted_of K) LIMITS trace) lines (judged K trace)

abbrev pub cert_outcome : System → List ℕ → List ℕ → Outcome
cert_outcome K trace cert =
    if nat_lt MAX_FILE_BYTES (length cert) then outcome 4 cert_too_long_text else text_outcome K trace (certificates.reading K.names cert)

abbrev pub certify_outcome : System → List ℕ → List ℕ → Outcome
certify_outcome K trace cert = behind_fault K (reading (wanted_of K) LIMITS trace).fault (cert_outcome K trace cert)
