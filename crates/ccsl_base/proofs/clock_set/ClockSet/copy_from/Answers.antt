use Rattle.std.proofs.Common.{sym, ◌∙◌, arith, refl}
use Rattle.ccsl_base.proofs.Differences.{made-behind, words-same}
use Rattle.ccsl_base.proofs.clock_set.ClockSet.copy_from.Goals as goal

pub returns : goal.returns
returns c =
    let all =
    made-behind _ c.loop-i.i _ c.loop-i.self-inside.words c.self.inside.words (omega (arith, c.self.invariant.0)) refl c.loop-i.invariant.made
    (λ k m. c.self.invariant.2 k (omega (arith, m, c.loop-i-test.false, c.max-i-end.ensures))
    ∙ sym (c.other.invariant.2 k (omega (arith, m, c.loop-i-test.false, c.max-i-end.ensures)))) in
    words-same c.loop-i.self-inside.words c.other.inside.words (all.0 ∙ c.self.invariant.0 ∙ sym c.other.invariant.0) all.1
    ∙ c.other.view_is
