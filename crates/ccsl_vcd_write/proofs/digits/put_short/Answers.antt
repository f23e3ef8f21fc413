use Rattle.std.proofs.Common.{◌≡◌, ◌-◌, ◌*◌, ◌/◌, ◌%◌, append_assoc, arith}
use Rattle.itoa.proofs.Decimal.{decimal_four, length_four}
use Rattle.ccsl_vcd_write.proofs.digits.put_short.Goals as goal

pub put_below_myriad-requires-2-clause-room : goal.put_below_myriad-requires-2-clause-room
put_below_myriad-requires-2-clause-room c = omega (arith, length_four c.args.n c.if-n-lt10000.false (omega arith))

pub put_pair-requires-clause-room : goal.put_pair-requires-clause-room
put_pair-requires-clause-room c = omega (arith, length_four c.args.n c.if-n-lt10000.false (omega arith))

pub put_pair-requires-2-clause-room : goal.put_pair-requires-2-clause-room
put_pair-requires-2-clause-room c = omega (arith, length_four c.args.n c.if-n-lt10000.false (omega arith))

pub returns-clause-text : goal.returns-clause-text
returns-clause-text c =
    let n = c.args.n in
    let high : n / 100 - n / 10000 * 100 ≡ n % 10000 / 100 = omega arith in
    let low : n - n / 100 * 100 ≡ n % 10000 % 100 = omega arith in
    rw (c.put_pair-2.ensures.text, c.put_pair.ensures.text, c.put_below_myriad-2.ensures.text, high, low, decimal_four n c.if-n-lt10000.false (omega arith))
    (simp append_assoc)

pub returns-clause-len : goal.returns-clause-len
returns-clause-len c = omega (arith, length_four c.args.n c.if-n-lt10000.false (omega arith))
