-- What is looked for in order is found first.
use Rattle.ccsl_kernel.proofs.FirstViolation.{verdict-run, verdict-violated}
use Rattle.ccsl_kernel.proofs.laws.verdict_is_first.Goals as goal

pub returns : goal.returns
returns c = λ K. record { run = λ bound rows h. verdict-run K bound rows h; violated = λ bound rows s i v. verdict-violated K bound rows s i v }
