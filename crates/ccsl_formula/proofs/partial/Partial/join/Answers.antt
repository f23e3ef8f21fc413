use Rattle.std.proofs.Common.{ap₂, ◌∙◌}
use Rattle.ccsl_formula.specs.Known.{known, joined}
use Rattle.ccsl_formula.proofs.Kept.{known-joined}
use Rattle.ccsl_formula.proofs.partial.Partial.join.Goals as goal

pub returns : goal.returns
returns c =
    known-joined c.self.inside.valued c.self.inside.truth c.other.inside.valued c.other.inside.truth c.insert_all.new.self c.remove_all.new.self
    c.insert_all-2.new.self
    c.insert_all.ensures c.remove_all.ensures c.insert_all-2.ensures c.other.invariant
    ∙ ap₂ (λ p q. joined (known p) (known q)) c.self.view_is c.other.view_is
