use Rattle.std.proofs.Common.{rules}
use Rattle.std.proofs.lemmas.Result.{IfOk-weaker}
use Rattle.ccsl_formula.specs.Formula.{FNot, FIff, FFalse}
use Rattle.ccsl_formula.specs.Same.{Same}
use Rattle.ccsl_formula.specs.Plain.{plain}
use Rattle.ccsl_formula.proofs.Folds.{Same-iff_false}
use Rattle.ccsl_formula.proofs.fold.iff.Goals as goal

pub returns-in_default-False-clause-value : goal.returns-in_default-False-clause-value
returns-in_default-False-clause-value c =
    rw c.in_default-False.is-1
    (IfOk-weaker c.not-in_default-False.result (λ r. Same (plain r) (FNot (plain c.args.f))) (λ r. Same (plain r) (FIff (plain c.args.f) FFalse))
    (λ r. Same-iff_false (plain c.args.f) (plain r)) c.not-in_default-False.ensures.value)

pub returns-in-False-default-clause-value : goal.returns-in-False-default-clause-value
returns-in-False-default-clause-value c = search rules
