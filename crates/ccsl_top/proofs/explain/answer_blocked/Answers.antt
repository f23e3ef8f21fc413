use Rattle.std.proofs.Common.{rules}
use Rattle.ccsl_top.proofs.explain.answer_blocked.Goals as goal

pub returns-in_err-text-clause-stop : goal.returns-in_err-text-clause-stop
returns-in_err-text-clause-stop g c = search rules

pub returns-clause-answers : goal.returns-clause-answers
returns-clause-answers g c = search rules

pub returns-in_err-write_certificate-clause-stop : goal.returns-in_err-write_certificate-clause-stop
returns-in_err-write_certificate-clause-stop c = search rules
