use Rattle.std.proofs.Common.{ap, sym, ◌∙◌}
use Rattle.ccsl_formula.specs.Known.{clocks}
use Rattle.ccsl_formula.proofs.Kept.{clocks-pairs}
use Rattle.ccsl_formula.proofs.partial.Partial.clocks.Goals as goal

pub returns : goal.returns
returns c = sym (clocks-pairs c.self.inside.valued c.self.inside.truth) ∙ ap clocks c.self.view_is
