use Rattle.std.proofs.Common.{sym, ap, ◌∙◌}
use Rattle.ccsl_vcd_read.specs.Marks.{ticking}
use Rattle.ccsl_vcd_read.proofs.Kept.{difference-ticks}
use Rattle.ccsl_vcd_read.proofs.marks.Marks.are_quiet.Goals as goal

pub returns : goal.returns
returns c =
    let e = difference-ticks c.self.inside.ones c.self.inside.earlier c.self.inside.slots.items c.ascends.ensures.ascending c.self.invariant.ascending
    c.self.invariant.inside ∙ ap ticking c.self.view_is in (
      (λ yes_. sym e ∙ c.is_subset.ensures.0 yes_),
      (λ none. c.is_subset.ensures.1 (e ∙ none)),
    )
