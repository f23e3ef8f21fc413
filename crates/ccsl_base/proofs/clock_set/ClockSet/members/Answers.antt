use Rattle.std.proofs.Common.{ap, sym, ◌∙◌, arith}
use Rattle.ccsl_base.specs.Clocks.{is_ascending, are_below}
use Rattle.ccsl_base.proofs.Words.{members-used, words-ascending, words-below}
use Rattle.ccsl_base.proofs.clock_set.ClockSet.members.Goals as goal

pub returns-clause-members : goal.returns-clause-members
returns-clause-members c =
    c.new.ensures
    ∙ members-used c.self.inside.used c.self.inside.words (omega (arith, c.self.invariant.0, c.self.invariant.1)) c.self.invariant.2
    ∙ c.self.view_is

pub returns-clause-ascending : goal.returns-clause-ascending
returns-clause-ascending c = ap is_ascending (sym c.self.view_is) ∙ words-ascending c.self.inside.words

pub returns-clause-below : goal.returns-clause-below
returns-clause-below c = ap (are_below 1024) (sym c.self.view_is) ∙ words-below c.self.inside.words c.self.invariant.0
