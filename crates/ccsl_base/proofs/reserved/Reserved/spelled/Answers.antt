use Rattle.std.proofs.Common.{refl, sym, ◌∙◌}
use Rattle.ccsl_base.specs.declared.reserved.Reserved.TheVariants as w
use Rattle.ccsl_base.specs.ReservedWords.{reserved}
use Rattle.ccsl_base.proofs.ReservedWords.{found_at, passed_at}
use Rattle.ccsl_base.proofs.reserved.Reserved.spelled.Goals as goal

pub loop-word-init : goal.loop-word-init
unfolding reserved
loop-word-init c = refl

pub returns-then-eq : goal.returns-then-eq
returns-then-eq c = sym (found_at c.args.text.now c.loop-word.word-index _ c.loop-word-test.true (rw (← c.spelling.ensures) (sym c.eq.ensures ∙ c.if-eq.true)))
    ∙ c.loop-word.invariant

pub loop-word-preserved : goal.loop-word-preserved
loop-word-preserved c = sym
    (passed_at c.args.text.now c.loop-word.word-index w.Ccsl c.loop-word-test.true (rw (← c.spelling.ensures) (sym c.eq.ensures ∙ c.if-eq.false)))
    ∙ c.loop-word.invariant
