use Rattle.std.proofs.Common.{ap₂, ap, ◌∙◌}
use Rattle.ccsl_formula.specs.declared.truth3.Truth3.TheVariants.{Open}
use Rattle.ccsl_formula.specs.Known.{known, with_truth}
use Rattle.ccsl_formula.specs.Kept.{pairs_of}
use Rattle.ccsl_formula.proofs.Kept.{known-open, within-open}
use Rattle.ccsl_formula.proofs.partial.Partial.forget.Goals as goal

pub returns : goal.returns
returns c =
    ap₂ (λ v t. known (pairs_of v t)) c.remove.ensures c.remove-2.ensures
    ∙ known-open c.self.inside.valued c.self.inside.truth c.args.clock
    ∙ ap (λ ps. with_truth (known ps) c.args.clock Open) c.self.view_is

pub invariant_of-self : goal.invariant_of-self
invariant_of-self c =
    rw (c.remove-2.ensures, c.remove.ensures) (within-open c.self.inside.valued c.self.inside.truth c.args.clock c.self.invariant)
