use Rattle.std.proofs.Common.{◌≡◌, ◌<◌, ◌+◌, ◌-◌, ◌*◌, arith, sym, ap, ap₂, ◌∙◌, subst, min}
use Rattle.std.specs.Int.{div_ceil}
use Rattle.ccsl_periodic.specs.Turns.{overtaken_at}
use Rattle.ccsl_periodic.proofs.Counts.{ones-next, byte-le}
use Rattle.ccsl_periodic.proofs.Failing.{IsSoFar, one_rests, one_ticks, so_far_is_first}
use Rattle.ccsl_periodic.proofs.failure.first_in_turns.Goals as goal
use Rattle.ccsl_periodic.proofs.failure.first_in_turns.Goals.{After-from-right_ones, then-right_ticks, else-right_ticks}

so_far : (c : After-from-right_ones) → IsSoFar c.args.left.now c.args.right.now c.args.turn.now c.if-right_ticks.first (c.loop-k.k + 1)
so_far c =
    let u = c.args.left.now in
    let v = c.args.right.now in
    let t = c.args.turn.now in
    let k = c.loop-k.k in
    elim c.if-right_ticks.branch [
      | then-right_ticks w ↦
          let place : w.overtaken_at.result ≡ overtaken_at u v t k =
          w.overtaken_at.ensures.place ∙ ap₂ (λ m n. k + div_ceil (m - n) (t.right - t.left) * t.letters) c.loop-k.invariant.left
          c.loop-k.invariant.right in
          let more = one_ticks u v t c.loop-k.first k (omega arith) (sym c.letter-right_ticks.ensures ∙ w.if-right_ticks.true)
          (subst (λ n. n < 18446744073709551615) place w.overtaken_at.ensures.small) c.loop-k.invariant.so_far in
          subst (λ n. IsSoFar u v t n (k + 1)) (sym (w.first-is ∙ w.min-first.ensures ∙ ap (min c.loop-k.first) place)) more
      | else-right_ticks w ↦
          subst (λ n. IsSoFar u v t n (k + 1)) (sym w.first-is)
          (one_rests u v t c.loop-k.first k (sym c.letter-right_ticks.ensures ∙ w.if-right_ticks.false) c.loop-k.invariant.so_far)
    ]

pub loop-k-preserved : goal.loop-k-preserved
loop-k-preserved c = record {
  left = ones-next c.args.left.now c.loop-k.k _ _ _ c.loop-k.invariant.left c.letter-left_ticks.ensures c.from-left_ones.ensures;
  right = ones-next c.args.right.now c.loop-k.k _ _ _ c.loop-k.invariant.right c.letter-right_ticks.ensures c.from-right_ones.ensures;
  left_few = omega (arith, c.loop-k.invariant.left_few, c.from-left_ones.ensures, byte-le c.letter-left_ticks.result);
  right_few = omega (arith, c.loop-k.invariant.right_few, c.from-right_ones.ensures, byte-le c.letter-right_ticks.result);
  so_far = so_far c;
}

pub returns-clause-fails : goal.returns-clause-fails
returns-clause-fails c =
    so_far_is_first c.args.left.now c.args.right.now c.args.turn.now c.loop-k.first c.loop-k.k c.requires.turn c.requires.gains c.requires.before (omega arith)
    c.loop-k.invariant.so_far
