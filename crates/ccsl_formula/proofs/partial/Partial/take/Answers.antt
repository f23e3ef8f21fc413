use Rattle.std.proofs.Common.{ap, sym, ◌∙◌, rules}
use Rattle.ccsl_formula.specs.Known.{known, with_truth}
use Rattle.ccsl_formula.proofs.partial.Partial.take.Goals as goal

pub returns-in-Yes : goal.returns-in-Yes
returns-in-Yes c = c.set.ensures ∙ ap (with_truth (known c.args.self.now) c.args.clock) (sym c.in-Yes.is ∙ c.value.ensures.value)

pub returns-in-No : goal.returns-in-No
returns-in-No c = c.set-in-No.ensures ∙ ap (with_truth (known c.args.self.now) c.args.clock) (sym c.in-No.is ∙ c.value.ensures.value)

pub returns-in-Open : goal.returns-in-Open
returns-in-Open c = search rules
