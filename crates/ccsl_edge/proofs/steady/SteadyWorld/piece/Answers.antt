use Rattle.std.proofs.Common.{sym, ap, ◌∙◌}
use Rattle.ccsl_edge.specs.Order.{index_of}
use Rattle.ccsl_edge.specs.SlotTable.{slot_in}
use Rattle.ccsl_edge.proofs.Sources.{faultless}
use Rattle.ccsl_edge.proofs.steady.SteadyWorld.piece.Goals as goal

pub returns-clause-faultless : goal.returns-clause-faultless
returns-clause-faultless c = λ slot.
    ap (λ w. (slot_in w.slots slot).faults) (sym c.self.view_is) ∙ faultless c.self.inside.files.items c.self.inside.sources (index_of slot)
