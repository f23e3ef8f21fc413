use Rattle.std.proofs.Common.{append_assoc, arith}
use Rattle.ccsl_vcd_write.proofs.Growing.{time-length}
use Rattle.ccsl_vcd_write.proofs.writer.put_time.Goals as goal

pub put_decimal-requires : goal.put_decimal-requires
put_decimal-requires c = omega (arith, time-length c.args.k (omega arith))

pub push_reserved-requires-2 : goal.push_reserved-requires-2
push_reserved-requires-2 c = omega (arith, time-length c.args.k (omega arith))

pub returns-clause-text : goal.returns-clause-text
returns-clause-text c =
    rw (c.push_reserved-2.ensures.items, c.put_decimal.ensures.text, c.push_reserved.ensures.items) (simp append_assoc)

pub returns-clause-len : goal.returns-clause-len
returns-clause-len c = omega (arith, time-length c.args.k (omega arith))
