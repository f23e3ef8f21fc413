use Rattle.std.proofs.Common.{length, arith, refl}
use Rattle.std.specs.Int.{IsGcd}
use Rattle.std.proofs.Math.Nat.{mul-pos}
use Rattle.ccsl_words.proofs.Letters.{infinite_len}
use Rattle.ccsl_periodic.specs.Ones.{period_ones}
use Rattle.ccsl_periodic.proofs.Divisors.{divisor_pos, quotient_pos}
use Rattle.ccsl_periodic.proofs.Plain.{shape_turns}
use Rattle.ccsl_periodic.proofs.filtered.plain_shape.Goals as goal
use Rattle.ccsl_periodic.proofs.filtered.plain_shape.Goals.{After-greatest_divisor}

is_gcd : (c : After-greatest_divisor) → IsGcd (length c.args.right.now.period) (period_ones c.args.left.now) c.greatest_divisor.result
is_gcd c = rw (← c.period_len-3.ensures.period, ← c.period_ones-ones.ensures.ones) c.greatest_divisor.ensures

pub nonzero_div-turns : goal.nonzero_div-turns
nonzero_div-turns c = divisor_pos (length c.args.right.now.period) (period_ones c.args.left.now) c.greatest_divisor.result (is_gcd c)
    (infinite_len c.args.right.now c.requires.right_infinite)

pub returns-clause-shape : goal.returns-clause-shape
returns-clause-shape c =
    rw (c.period_len-4.ensures.period, c.period_len-2.ensures.period)
    (shape_turns (period_ones c.args.left.now) c.args.left.now c.args.right.now c.behind_both.result _
    (omega (arith, c.period_ones-ones.ensures.ones, c.if-ones-eq0.false)) c.behind_both.ensures.place
    (c.greatest_divisor.result, rw (← c.period_len-3.ensures.period, ← c.period_ones-ones.ensures.ones) c.greatest_divisor.ensures, refl))

pub returns-clause-some : goal.returns-clause-some
returns-clause-some c =
    rw (c.period_len-4.ensures.period, c.period_len-2.ensures.period)
    (mul-pos (infinite_len c.args.left.now c.requires.left_infinite)
    (quotient_pos (period_ones c.args.left.now) (length c.args.right.now.period) c.greatest_divisor.result
    (let h = (let h : IsGcd (length c.args.right.now.period) (period_ones c.args.left.now) c.greatest_divisor.result = rw (
      ← c.period_len-3.ensures.period,
      ← c.period_ones-ones.ensures.ones,
    ) c.greatest_divisor.ensures in h) in (h.1, h.0, λ e a b. h.2 e b a))
    (infinite_len c.args.right.now c.requires.right_infinite)))
