use Rattle.std.proofs.Common.{sym, ap, ◌∙◌, subst}
use Rattle.ccsl_kernel.specs.Syntax.{item_count}
use Rattle.ccsl_kernel.specs.Verdict as kernel
use Rattle.ccsl_relate.specs.Violations.{Finds}
use Rattle.ccsl_relate.proofs.Verdicts.{obeyed-run, first-violated}
use Rattle.ccsl_judge.proofs.verdict.verdict_on.Goals as goal

pub returns-in-None-clause-verdict : goal.returns-in-None-clause-verdict
returns-in-None-clause-verdict c = λ K bound rows count f.
    ap kernel.Run count ∙ sym (obeyed-run K bound rows (subst (Finds K bound rows 0 (item_count K)) c.in-None.is f))

pub returns-in-Some-clause-verdict : goal.returns-in-Some-clause-verdict
returns-in-Some-clause-verdict c = λ K bound rows count f.
    sym (first-violated K bound rows c.in-Some.violation (subst (Finds K bound rows 0 (item_count K)) c.in-Some.is f))
