use Rattle.std.proofs.Common.{ap₂, sym, ◌∙◌}
use Rattle.ccsl_formula.specs.Known.{known}
use Rattle.ccsl_formula.specs.Truth.{with_value}
use Rattle.ccsl_formula.specs.Kept.{pairs_of}
use Rattle.ccsl_formula.proofs.Kept.{known-true, known-false, within-true, within-false}
use Rattle.ccsl_formula.proofs.partial.Partial.set.Goals as goal

pub returns-then-value : goal.returns-then-value
returns-then-value c =
    ap₂ (λ v t. known (pairs_of v t)) c.insert.ensures c.insert-then-value.ensures
    ∙ known-true c.self.inside.valued c.self.inside.truth c.args.clock
    ∙ ap₂ (λ ps b. with_value (known ps) c.args.clock b) c.self.view_is (sym c.if-value.true)

pub returns-else-value : goal.returns-else-value
returns-else-value c =
    ap₂ (λ v t. known (pairs_of v t)) c.insert.ensures c.remove.ensures
    ∙ known-false c.self.inside.valued c.self.inside.truth c.args.clock
    ∙ ap₂ (λ ps b. with_value (known ps) c.args.clock b) c.self.view_is (sym c.if-value.false)

pub invariant_of-self : goal.invariant_of-self
invariant_of-self c = rw (c.insert-then-value.ensures, c.insert.ensures) (within-true c.self.inside.valued c.self.inside.truth c.args.clock c.self.invariant)

pub invariant_of-self-else-value : goal.invariant_of-self-else-value
invariant_of-self-else-value c = rw (c.remove.ensures, c.insert.ensures) (within-false c.self.inside.valued c.self.inside.truth c.args.clock c.self.invariant)
