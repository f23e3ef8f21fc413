-- What `check` answers on an accepted specification.
use Rattle.ccsl_kernel.specs.Syntax.{System}
use Rattle.ccsl_report.specs.Texts.{checked_text}
use Rattle.ccsl_top.specs.Outcome.{Outcome, outcome}

abbrev pub check_outcome : System → Outcome
check_outcome K = outcome 0 (checked_text K)
