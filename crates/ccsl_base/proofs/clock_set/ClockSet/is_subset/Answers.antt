use Rattle.std.proofs.Common.{◌≡◌, true, false, refl, ◌∙◌, sym, ap₂, arith}
use Rattle.ccsl_base.specs.Changes.{difference}
use Rattle.ccsl_base.proofs.Differences.{within-all, not-within}
use Rattle.ccsl_base.proofs.clock_set.ClockSet.is_subset.Goals as goal

pub returns-then-first-ne0 : goal.returns-then-first-ne0
returns-then-first-ne0 c = (
  (λ no. absurd (let e : false ≡ true = no in cc)),
  (λ none. absurd (not-within 0 c.word_without-first.result c.self.inside.words c.other.inside.words c.if-first-ne0.true c.word_without-first.type_inv
      c.word_without-first.ensures.bits
      (ap₂ difference c.self.view_is c.other.view_is ∙ none))),
)

pub returns-then-word_without-ne0 : goal.returns-then-word_without-ne0
returns-then-word_without-ne0 c = (
  (λ no. absurd (let e : false ≡ true = no in cc)),
  (λ none. absurd (not-within c.loop-i.i c.word_without.result c.self.inside.words c.other.inside.words c.if-word_without-ne0.true c.word_without.type_inv
      c.word_without.ensures.bits
      (ap₂ difference c.self.view_is c.other.view_is ∙ none))),
)

pub returns : goal.returns
returns c = (
  (λ _.
      sym (ap₂ difference c.self.view_is c.other.view_is)
      ∙ within-all c.loop-i.i c.self.inside.used c.self.inside.words c.other.inside.words c.loop-i.invariant (omega (arith, c.loop-i-test.false))
      c.self.invariant.2),
  (λ _. refl),
)
