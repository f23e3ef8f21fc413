use Rattle.std.proofs.Common.{◌≡◌, ◌&&◌, true, map, sym, ap, ◌∙◌}
use Rattle.ccsl_formula.specs.Truth.{Part}
use Rattle.ccsl_formula.specs.Plain.{plain}
use Rattle.ccsl_refute.specs.Literals.{falsified, are_proper}
use Rattle.ccsl_refute.specs.Validity.{closes, is_valid}
use Rattle.ccsl_refute.proofs.checker.is_valid.Goals as goal

pub returns-in-Some-assumed : goal.returns-in-Some-assumed
returns-in-Some-assumed c =
    let scope = c.args.scope.now in
    let earlier = c.args.earlier.now in
    let lits = c.in-Derived.lits in
    let is = c.members-in-Derived.ensures in
    let proper : are_proper scope.named lits ≡ true = sym (ap (are_proper scope.named) is) ∙ c.in-Some-assumed.ensures.0 in
    c.closes.ensures
    ∙ ap (λ (p : Part). closes scope.declared earlier p c.members-in-Some-assumed.result.now) (c.in-Some-assumed.ensures.1 ∙ ap falsified is)
    ∙ ap (closes scope.declared earlier (falsified lits)) c.members-in-Some-assumed.ensures
    ∙ ap (λ b. b && closes scope.declared earlier (falsified lits) c.in-Derived.hints) (sym proper)
    ∙ sym (ap (is_valid scope (map plain c.args.formulas.now) earlier) c.in-Derived.is)
