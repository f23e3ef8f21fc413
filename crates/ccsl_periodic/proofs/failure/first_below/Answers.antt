use Rattle.std.proofs.Common.{arith, below_more}
use Rattle.ccsl_periodic.proofs.Counts.{ones-next, byte-le}
use Rattle.ccsl_periodic.proofs.failure.first_below.Goals as goal

pub returns-then-fails-clause-fails : goal.returns-then-fails-clause-fails
returns-then-fails-clause-fails c = record {
  fails = let e = c.fails.ensures in let l = c.letter-left_ticks.ensures in let r = c.letter-right_ticks.ensures in let i = c.loop-k.invariant.left in let j =
      c.loop-k.invariant.right in let t = c.if-fails.true in cc;
  least = c.loop-k.invariant.none;
}

pub loop-k-preserved : goal.loop-k-preserved
loop-k-preserved c = record {
  left = ones-next c.args.left.now c.loop-k.k _ _ _ c.loop-k.invariant.left c.letter-left_ticks.ensures c.from-left_ones.ensures;
  right = ones-next c.args.right.now c.loop-k.k _ _ _ c.loop-k.invariant.right c.letter-right_ticks.ensures c.from-right_ones.ensures;
  left_few = omega (arith, c.loop-k.invariant.left_few, c.from-left_ones.ensures, byte-le c.letter-left_ticks.result);
  right_few = omega (arith, c.loop-k.invariant.right_few, c.from-right_ones.ensures, byte-le c.letter-right_ticks.result);
  none = below_more _ _ c.loop-k.invariant.none (let e = c.fails.ensures in let l = c.letter-left_ticks.ensures in let r =
      c.letter-right_ticks.ensures in let i = c.loop-k.invariant.left in let j = c.loop-k.invariant.right in let t = c.if-fails.false in cc);
}
