use Rattle.std.proofs.Common.{◌-◌, Some, sym, ap, ◌∙◌, arith}
use Rattle.ccsl_possible.proofs.Failing.{item-fails, first-here, none-here}
use Rattle.ccsl_possible.proofs.fired.first_failing.Goals as goal

pub returns-then-branch : goal.returns-then-branch
returns-then-branch c = λ T stands.
    let K = c.args.system.now in
    let s = c.args.set.now in
    let i = c.loop-item.item in
    let definitions = c.definitions-definitions.ensures in
    let here = item-fails K T s c.args.states.now.system i c.derive-step.result c.in_ok-fails.field-0 c.requires (c.derive-step.ensures.step T stands)
    (c.in_ok-fails.ensures T stands) (omega (arith, definitions)) in
    ap (λ n. Some (i - n)) definitions
    ∙ first-here K T s i (omega (arith, definitions)) (omega arith) (c.loop-item.invariant T stands) (sym here ∙ c.if-branch.true)

pub returns : goal.returns
returns c = λ T stands. none-here c.args.system.now T c.args.set.now c.loop-item.item (omega arith) (c.loop-item.invariant T stands)
