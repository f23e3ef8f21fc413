use Rattle.std.proofs.Common.{◌∙◌, not, ap, sym}
use Rattle.ccsl_formula.specs.declared.truth3.Truth3.TheVariants.{Open}
use Rattle.ccsl_formula.specs.Truth.{Part}
use Rattle.ccsl_formula.specs.Known.{known, with_truth}
use Rattle.ccsl_solve.proofs.Tests.{open-test}
use Rattle.ccsl_solve.proofs.Parts.{undone}
use Rattle.ccsl_solve.proofs.plan.forces.Goals as goal

pub returns-clause-same : goal.returns-clause-same
returns-clause-same c =
    let p = known c.args.part.now in
    c.forget.ensures ∙ ap (λ (r : Part). with_truth r c.args.lit.clock Open) c.set.ensures
    ∙ undone p c.args.lit.clock (not c.args.lit.positive) (open-test (p c.args.lit.clock) (sym c.if-not-is_open_at.ensures))
