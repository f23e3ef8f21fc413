use Rattle.std.proofs.Common.{◌<◌, ap, sym, ◌∙◌, cond, arith}
use Rattle.ccsl_base.specs.Clocks.{ticks_in, is_ascending, are_below}
use Rattle.ccsl_base.proofs.Sets.{member-below}
use Rattle.ccsl_formula.specs.declared.truth3.Truth3.TheVariants.{Open}
use Rattle.ccsl_formula.specs.Truth.{known_as}
use Rattle.ccsl_formula.specs.Known.{known, clocks}
use Rattle.ccsl_formula.proofs.Kept.{known-pairs, clocks-pairs}
use Rattle.ccsl_formula.proofs.partial.Partial.value.Goals as goal

pub returns-then-has-clause-value : goal.returns-then-has-clause-value
returns-then-has-clause-value c =
    c.known_as.ensures
    ∙ ap known_as c.has-then-has.ensures.member
    ∙ sym (ap (λ b. cond b (known_as (ticks_in c.args.clock c.self.inside.truth)) Open) (sym c.has.ensures.member ∙ c.if-has.true))
    ∙ sym (known-pairs c.self.inside.valued c.self.inside.truth c.args.clock)
    ∙ ap (λ ps. known ps c.args.clock) c.self.view_is

pub returns-then-has-clause-past : goal.returns-then-has-clause-past
returns-then-has-clause-past c past =
    let inside : c.args.clock < 1024 = member-below 1024 c.self.inside.valued c.args.clock c.has.ensures.below (sym c.has.ensures.member ∙ c.if-has.true) in
    absurd (omega (arith, inside, past))

pub returns-then-has-clause-ascending : goal.returns-then-has-clause-ascending
returns-then-has-clause-ascending c =
    ap (λ ps. is_ascending (clocks ps)) (sym c.self.view_is) ∙ ap is_ascending (clocks-pairs c.self.inside.valued c.self.inside.truth) ∙ c.has.ensures.ascending

pub returns-then-has-clause-below : goal.returns-then-has-clause-below
returns-then-has-clause-below c =
    ap (λ ps. are_below 1024 (clocks ps)) (sym c.self.view_is) ∙ ap (are_below 1024) (clocks-pairs c.self.inside.valued c.self.inside.truth)
    ∙ c.has.ensures.below

pub returns-else-has-clause-value : goal.returns-else-has-clause-value
returns-else-has-clause-value c =
    sym (ap (λ b. cond b (known_as (ticks_in c.args.clock c.self.inside.truth)) Open) (sym c.has.ensures.member ∙ c.if-has.false))
    ∙ sym (known-pairs c.self.inside.valued c.self.inside.truth c.args.clock)
    ∙ ap (λ ps. known ps c.args.clock) c.self.view_is

pub returns-else-has-clause-ascending : goal.returns-else-has-clause-ascending
returns-else-has-clause-ascending c =
    ap (λ ps. is_ascending (clocks ps)) (sym c.self.view_is) ∙ ap is_ascending (clocks-pairs c.self.inside.valued c.self.inside.truth) ∙ c.has.ensures.ascending

pub returns-else-has-clause-below : goal.returns-else-has-clause-below
returns-else-has-clause-below c =
    ap (λ ps. are_below 1024 (clocks ps)) (sym c.self.view_is) ∙ ap (are_below 1024) (clocks-pairs c.self.inside.valued c.self.inside.truth)
    ∙ c.has.ensures.below
