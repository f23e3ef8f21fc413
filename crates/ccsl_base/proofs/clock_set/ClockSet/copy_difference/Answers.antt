use Rattle.std.proofs.Common.{sym, ap₂, ◌∙◌, arith, refl}
use Rattle.ccsl_base.specs.Changes.{difference}
use Rattle.ccsl_base.proofs.Differences.{made-next, made-begun, made-behind, zero-beyond, words-difference}
use Rattle.ccsl_base.proofs.clock_set.ClockSet.copy_difference.Goals as goal

pub loop-i-init : goal.loop-i-init
loop-i-init c = record {
  same = refl;
  made = made-begun _ _ c.self.inside.words (omega (arith, c.self.invariant.0))
      (record { bits = c.word_without-first.ensures.bits; none = c.word_without-first.ensures.none });
}

pub loop-i-preserved : goal.loop-i-preserved
loop-i-preserved c = record {
  same = c.loop-i.invariant.same;
  made = made-next _ c.loop-i.i _ _ _ c.loop-i.invariant.made (omega (arith, c.loop-i-test.true))
      (record { bits = c.word_without.ensures.bits; none = c.word_without.ensures.none });
}

pub invariant_of-self : goal.invariant_of-self
invariant_of-self c =
    let all =
    made-behind _ c.loop-i.i _ c.loop-i.self-inside.words c.self.inside.words (omega (arith, c.self.invariant.0))
    (record { bits = c.word_without-first.ensures.bits; none = c.word_without-first.ensures.none }) c.loop-i.invariant.made
    (λ k m. zero-beyond _ _ _ (c.one.invariant.2 k (omega (arith, m, c.loop-i-test.false, c.max-i-end.ensures)))
    (c.self.invariant.2 k (omega (arith, m, c.loop-i-test.false, c.max-i-end.ensures)))) in
    (all.0 ∙ c.self.invariant.0, c.one.invariant.1, λ j l. (all.1 j).none (c.one.invariant.2 j l))

pub returns : goal.returns
returns c =
    let all =
    made-behind _ c.loop-i.i _ c.loop-i.self-inside.words c.self.inside.words (omega (arith, c.self.invariant.0))
    (record { bits = c.word_without-first.ensures.bits; none = c.word_without-first.ensures.none }) c.loop-i.invariant.made
    (λ k m. zero-beyond _ _ _ (c.one.invariant.2 k (omega (arith, m, c.loop-i-test.false, c.max-i-end.ensures)))
    (c.self.invariant.2 k (omega (arith, m, c.loop-i-test.false, c.max-i-end.ensures)))) in
    words-difference c.loop-i.self-inside.words c.one.inside.words c.other.inside.words (all.0 ∙ c.self.invariant.0 ∙ sym c.one.invariant.0) all.1
    ∙ ap₂ difference c.one.view_is c.other.view_is
