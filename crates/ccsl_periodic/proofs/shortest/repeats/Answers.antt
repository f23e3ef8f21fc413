use Rattle.std.proofs.Common.{arith, refl}
use Rattle.ccsl_periodic.proofs.Repeating.{repeats_for_ever}
use Rattle.ccsl_periodic.proofs.shortest.repeats.Goals as goal

pub returns : goal.returns
returns c = (
  (λ _. repeats_for_ever c.args.word.now c.requires.infinite c.args.period
      (λ k l w. c.loop-k.invariant k l (omega (arith, w, c.loop-k-test.false, c.len-k-end.ensures.letters)))),
  (λ _. refl),
)
