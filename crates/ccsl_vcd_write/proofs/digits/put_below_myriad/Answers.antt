use Rattle.std.proofs.Common.{◌≡◌, ◌-◌, ◌*◌, ◌/◌, ◌%◌, append_assoc, arith}
use Rattle.itoa.proofs.Decimal.{decimal_pair, length_pair}
use Rattle.ccsl_vcd_write.proofs.digits.put_below_myriad.Goals as goal

pub put_below_100-requires-2-clause-room : goal.put_below_100-requires-2-clause-room
put_below_100-requires-2-clause-room c = omega (arith, length_pair c.args.n c.if-n-lt100.false (omega arith))

pub put_pair-requires-clause-room : goal.put_pair-requires-clause-room
put_pair-requires-clause-room c = omega (arith, length_pair c.args.n c.if-n-lt100.false (omega arith))

pub returns-clause-text : goal.returns-clause-text
returns-clause-text c =
    let n = c.args.n in
    let pair : n - n / 100 * 100 ≡ n % 100 = omega arith in
    rw (c.put_pair.ensures.text, c.put_below_100-2.ensures.text, pair, decimal_pair n c.if-n-lt100.false (omega arith), append_assoc)

pub returns-clause-len : goal.returns-clause-len
returns-clause-len c = omega (arith, length_pair c.args.n c.if-n-lt100.false (omega arith))
