-- WHAT `session` ANSWERS on an accepted specification and the bytes that are left of standard input.
use Rattle.std.specs.Prelude.{ℕ, List, ◌++◌}
use Rattle.ccsl_base.specs.declared.limits.TheConstants.{MAX_FILE_BYTES}
use Rattle.ccsl_kernel.specs.Syntax.{System}
use Rattle.ccsl_policy.specs.declared.policies.Policy.{Policy}
use Rattle.ccsl_session.specs.declared.answer.Ended.{Ended}
use Rattle.ccsl_session.specs.declared.answer.Ended.TheVariants.{Quit, EndOfInput, TooLong}
use Rattle.ccsl_session.specs.Session.{session_text, ended_by}
use Rattle.ccsl_report.specs.Texts.{session_too_long_text}
use Rattle.ccsl_top.specs.Outcome.{Outcome, outcome}

-- the answers, and a line more where the input is too long
abbrev pub conversed : Ended → List ℕ → Outcome
conversed Quit text = outcome 0 text
conversed EndOfInput text = outcome 0 text
conversed TooLong text = outcome 4 (text ++ session_too_long_text)

abbrev pub session_outcome : System → Policy → ℕ → List ℕ → Outcome
session_outcome K policy seed input =
    conversed (ended_by K policy seed MAX_FILE_BYTES input) (session_text K policy seed MAX_FILE_BYTES input)
