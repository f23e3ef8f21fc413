use Rattle.std.proofs.Common.{ap, sym, ◌∙◌}
use Rattle.ccsl_base.specs.Clocks.{is_ascending, are_below}
use Rattle.ccsl_formula.specs.Known.{clocks}
use Rattle.ccsl_formula.proofs.Kept.{clocks-pairs}
use Rattle.ccsl_formula.proofs.partial.Partial.pairs.Goals as goal

pub returns-clause-ascending : goal.returns-clause-ascending
returns-clause-ascending c =
    ap (λ ps. is_ascending (clocks ps)) (sym c.self.view_is) ∙ ap is_ascending (clocks-pairs c.self.inside.valued c.self.inside.truth)
    ∙ c.members.ensures.ascending

pub returns-clause-below : goal.returns-clause-below
returns-clause-below c =
    ap (λ ps. are_below 1024 (clocks ps)) (sym c.self.view_is) ∙ ap (are_below 1024) (clocks-pairs c.self.inside.valued c.self.inside.truth)
    ∙ c.members.ensures.below
