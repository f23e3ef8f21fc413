use Rattle.std.proofs.Common.{◌%◌, ap, sym, ◌∙◌, arith, nat_eq}
use Rattle.std.proofs.lemmas.Bool.{le-ltb}
use Rattle.std.proofs.lemmas.Nat.Bits.{shr_and_one}
use Rattle.ccsl_base.specs.Clocks.{ticks_in, is_ascending, are_below}
use Rattle.ccsl_base.proofs.Words.{ticks_in-words, words-ascending, words-below, clear-past}
use Rattle.ccsl_base.proofs.clock_set.ClockSet.has.Goals as goal

pub returns-then-clock-lt-MAX_CLOCKS-clause-member : goal.returns-then-clock-lt-MAX_CLOCKS-clause-member
returns-then-clock-lt-MAX_CLOCKS-clause-member c =
    ap (λ b. nat_eq b 1) (shr_and_one _ (c.args.clock % 64)) ∙ sym (ticks_in-words c.self.inside.words c.args.clock) ∙ ap (ticks_in c.args.clock) c.self.view_is

pub returns-then-clock-lt-MAX_CLOCKS-clause-ascending : goal.returns-then-clock-lt-MAX_CLOCKS-clause-ascending
returns-then-clock-lt-MAX_CLOCKS-clause-ascending c = ap is_ascending (sym c.self.view_is) ∙ words-ascending c.self.inside.words

pub returns-then-clock-lt-MAX_CLOCKS-clause-below : goal.returns-then-clock-lt-MAX_CLOCKS-clause-below
returns-then-clock-lt-MAX_CLOCKS-clause-below c = ap (are_below 1024) (sym c.self.view_is) ∙ words-below c.self.inside.words c.self.invariant.0

pub returns-else-clock-lt-MAX_CLOCKS-clause-member : goal.returns-else-clock-lt-MAX_CLOCKS-clause-member
returns-else-clock-lt-MAX_CLOCKS-clause-member c =
    le-ltb c.args.clock 1024 c.if-clock-lt-MAX_CLOCKS.false
    ∙ sym (ticks_in-words c.self.inside.words c.args.clock
    ∙ clear-past c.self.inside.words c.args.clock (omega (arith, c.self.invariant.0, c.if-clock-lt-MAX_CLOCKS.false)))
    ∙ ap (ticks_in c.args.clock) c.self.view_is

pub returns-else-clock-lt-MAX_CLOCKS-clause-ascending : goal.returns-else-clock-lt-MAX_CLOCKS-clause-ascending
returns-else-clock-lt-MAX_CLOCKS-clause-ascending c = ap is_ascending (sym c.self.view_is) ∙ words-ascending c.self.inside.words

pub returns-else-clock-lt-MAX_CLOCKS-clause-below : goal.returns-else-clock-lt-MAX_CLOCKS-clause-below
returns-else-clock-lt-MAX_CLOCKS-clause-below c = ap (are_below 1024) (sym c.self.view_is) ∙ words-below c.self.inside.words c.self.invariant.0
