use Rattle.std.proofs.Common.{append_assoc, arith}
use Rattle.itoa.proofs.Decimal.{decimal_pair, length_pair}
use Rattle.ccsl_vcd_write.proofs.digits.+put_long.Goals as goal

pub put_long-requires : goal.put_long-requires
put_long-requires t c = (omega arith, omega (arith, length_pair c.args.n (omega arith) (omega arith)))

pub put_pair-requires-clause-room : goal.put_pair-requires-clause-room
put_pair-requires-clause-room t c = omega (arith, length_pair c.args.n (omega arith) (omega arith))

pub returns-clause-text : goal.returns-clause-text
returns-clause-text t c =
    rw (c.put_pair.ensures.text, c.put_long.ensures.text, decimal_pair c.args.n (omega arith) (omega arith), append_assoc)

pub returns-clause-len : goal.returns-clause-len
returns-clause-len t c = omega (arith, length_pair c.args.n (omega arith) (omega arith))
