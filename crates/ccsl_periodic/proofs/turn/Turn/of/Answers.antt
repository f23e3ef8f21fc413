use Rattle.std.proofs.Common.{◌<◌, length, arith}
use Rattle.std.specs.Int.{IsGcd}
use Rattle.ccsl_words.proofs.Letters.{infinite_len}
use Rattle.ccsl_periodic.proofs.Divisors.{divisor_pos}
use Rattle.ccsl_periodic.proofs.Turning.{common_turn}
use Rattle.ccsl_periodic.proofs.turn.Turn.of.Goals as goal
use Rattle.ccsl_periodic.proofs.turn.Turn.of.Goals.{After-greatest_divisor-divisor}

is_gcd : (c : After-greatest_divisor-divisor) → IsGcd (length c.args.left.now.period) (length c.args.right.now.period) c.greatest_divisor-divisor.result
is_gcd c = rw (← c.period_len-left_len.ensures.period, ← c.period_len-right_len.ensures.period) c.greatest_divisor-divisor.ensures

positive : (c : After-greatest_divisor-divisor) → 0 < c.greatest_divisor-divisor.result
positive c = divisor_pos (length c.args.left.now.period) (length c.args.right.now.period) c.greatest_divisor-divisor.result (is_gcd c)
    (infinite_len c.args.left.now c.requires.left_infinite)

pub nonzero_div-left_turns : goal.nonzero_div-left_turns
nonzero_div-left_turns c = positive c

pub nonzero_div-right_turns : goal.nonzero_div-right_turns
nonzero_div-right_turns c = positive c

pub returns : goal.returns
returns c =
    rw (c.period_len-left_len.ensures.period, c.period_len-right_len.ensures.period, c.period_ones.ensures.ones, c.period_ones-2.ensures.ones)
    (common_turn c.args.left.now c.args.right.now c.greatest_divisor-divisor.result c.max.result c.requires.left_infinite c.requires.right_infinite
    (rw (← c.period_len-left_len.ensures.period, ← c.period_len-right_len.ensures.period) c.greatest_divisor-divisor.ensures)
    (omega arith) (omega arith) (omega arith) (omega arith) (omega arith))
