use Rattle.std.proofs.Common.{◌≡◌, ◌||◌, [], false, ap, ap₂, ◌∙◌, arith, refl, sym}
use Rattle.std.proofs.Math.Bool.{or-false}
use Rattle.ccsl_base.specs.Clocks.{ticks_in}
use Rattle.ccsl_base.specs.Bits.{members_where}
use Rattle.ccsl_base.proofs.Words.{joined-none, joined-first, joined-begun, joined-again, joined-all, gives-none}
use Rattle.ccsl_base.proofs.clock_set.ClockSet.insert_all.Goals as goal

pub returns-then-other-eq0 : goal.returns-then-other-eq0
unfolding members_where
returns-then-other-eq0 c x =
    let none : false ≡ ticks_in x c.args.other.now = joined-all (λ a b. a || b) 0 [] [] c.other.inside.words
    (joined-none (λ a b. a || b) [] c.other.inside.words)
    (λ j k l. gives-none _ _ k (c.other.invariant.2 j (omega arith))) x ∙ ap (ticks_in x) c.other.view_is in
    sym (or-false (ticks_in x c.args.self.now)) ∙ ap (λ b. ticks_in x c.args.self.now || b) none

pub loop-i-init : goal.loop-i-init
loop-i-init c =
    let first = joined-first (λ a b. a || b) c.self.inside.words c.other.inside.words c.either_word.result (omega (arith, c.self.invariant.0))
    (λ k l. c.either_word.ensures k) in
    record { begun = omega arith; same = refl; joined = joined-begun _ _ _ first }

pub returns : goal.returns
returns c x =
    let first = joined-first (λ a b. a || b) c.self.inside.words c.other.inside.words c.either_word.result (omega (arith, c.self.invariant.0))
    (λ k l. c.either_word.ensures k) in
    joined-all (λ a b. a || b) c.loop-i.i c.loop-i.self-inside.words c.self.inside.words c.other.inside.words
    (joined-again c.loop-i.i _ _ _ _ first c.loop-i.invariant.joined c.loop-i.invariant.begun)
    (λ j k l. gives-none _ _ k (c.other.invariant.2 j (omega (arith, c.loop-i-test.false, l))))
    x
    ∙ ap₂ (λ s t. ticks_in x s || ticks_in x t) c.self.view_is c.other.view_is
