use Rattle.std.proofs.Common.{List, map, sym, subst, rules}
use Rattle.ccsl_formula.specs.Formula.{Formula}
use Rattle.ccsl_formula.specs.Plain.{plain}
use Rattle.ccsl_formula.specs.declared.formula.Formula.TheVariants.{True}
use Rattle.ccsl_explain.specs.Asked.{IsAsked}
use Rattle.ccsl_explain.proofs.Deletions.{put-back}
use Rattle.ccsl_explain.proofs.Masks.{asked-without}
use Rattle.ccsl_explain.proofs.least.least_without.Goals as goal

pub least_step-requires-clause-asked : goal.least_step-requires-clause-asked
least_step-requires-clause-asked c =
    subst (λ (fs : List Formula). IsAsked c.args.scope.now fs) (sym c.take_out-formula.ensures.out)
    (asked-without c.args.scope.now (map plain c.args.formulas.now) c.args.item c.requires.asked)

pub returns-clause-same : goal.returns-clause-same
returns-clause-same c =
    put-back c.args.formulas.now c.take_out-formula.new.formulas c.put_back.new.formulas c.args.item True c.take_out-formula.result
    c.take_out-formula.ensures.list c.take_out-formula.ensures.formula c.put_back.ensures

pub least_step-requires-clause-open : goal.least_step-requires-clause-open
least_step-requires-clause-open c = search rules

pub returns-clause-least : goal.returns-clause-least
returns-clause-least c = search rules
