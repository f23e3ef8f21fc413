use Rattle.std.proofs.Common.{ap, sym, ◌∙◌}
use Rattle.ccsl_base.specs.Clocks.{is_ascending, are_below}
use Rattle.ccsl_base.proofs.Words.{words-ascending, words-below}
use Rattle.ccsl_base.proofs.clock_set.ClockSet.ascends.Goals as goal

pub returns-clause-ascending : goal.returns-clause-ascending
returns-clause-ascending c = ap is_ascending (sym c.self.view_is) ∙ words-ascending c.self.inside.words

pub returns-clause-below : goal.returns-clause-below
returns-clause-below c = ap (are_below 1024) (sym c.self.view_is) ∙ words-below c.self.inside.words c.self.invariant.0
