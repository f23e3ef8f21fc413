-- An item past the definitions is a constraint.
use Rattle.std.proofs.Common.{◌≡◌, ◌-◌, ◌≤◌, length, IfOk, Some, slice_get, sym, ap, ◌∙◌, subst, arith}
use Rattle.ccsl_formula.specs.Plain.{plain}
use Rattle.ccsl_kernel.proofs.ItemCases.{item-constraint}
use Rattle.ccsl_plain.proofs.plain.plain_formula.Goals as goal

pub returns-else-item-definitions : goal.returns-else-item-definitions
returns-else-item-definitions c =
    let K = c.args.system.now in
    let past : length K.definitions ≤ c.args.item = omega arith in
    let is : slice_get K.constraints (c.args.item - length K.definitions) ≡ Some c.constraint.result.now =
    ap (λ n. slice_get K.constraints (c.args.item - n)) (sym c.definitions-definitions.ensures) ∙ c.constraint.ensures.constraint in
    subst (λ f. IfOk c.constraint_formula.result (λ r. plain r ≡ f))
    (sym (item-constraint K c.args.steps.now (length c.args.steps.now) c.args.item c.constraint.result.now past is)) c.constraint_formula.ensures
