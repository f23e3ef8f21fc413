use Rattle.std.proofs.Common.{arith}
use Rattle.ccsl_periodic.proofs.Repeating.{one_before}
use Rattle.ccsl_periodic.proofs.shortest.shortest_prefix.Goals as goal

pub loop-place-preserved : goal.loop-place-preserved
loop-place-preserved c = record {
  within = omega (arith, c.loop-place.invariant.within);
  repeats = one_before c.args.word.now c.loop-place.place c.args.period c.loop-place.invariant.repeats c.letter.result c.letter-in-loop-place.result
      c.letter.ensures c.letter-in-loop-place.ensures c.if-letter.false;
}
