use Rattle.std.proofs.Common.{arith}
use Rattle.std.proofs.lemmas.Fmt.{decimal_digit}
use Rattle.itoa.proofs.Decimal.{length_one, decimal_two, length_two}
use Rattle.ccsl_vcd_write.proofs.digits.put_below_100.Goals as goal

pub push_reserved-requires : goal.push_reserved-requires
push_reserved-requires c = omega (arith, length_one c.args.n c.if-n-lt10.true)

pub put_pair-requires-clause-room : goal.put_pair-requires-clause-room
put_pair-requires-clause-room c = omega (arith, length_two c.args.n c.if-n-lt10.false c.requires.below)

pub returns-then-n-lt10-clause-text : goal.returns-then-n-lt10-clause-text
returns-then-n-lt10-clause-text c = rw (decimal_digit c.args.n c.if-n-lt10.true) c.push_reserved.ensures.items

pub returns-then-n-lt10-clause-len : goal.returns-then-n-lt10-clause-len
returns-then-n-lt10-clause-len c = omega (arith, length_one c.args.n c.if-n-lt10.true)

pub returns-else-n-lt10-clause-text : goal.returns-else-n-lt10-clause-text
returns-else-n-lt10-clause-text c = rw (decimal_two c.args.n c.if-n-lt10.false c.requires.below) c.put_pair.ensures.text

pub returns-else-n-lt10-clause-len : goal.returns-else-n-lt10-clause-len
returns-else-n-lt10-clause-len c = omega (arith, length_two c.args.n c.if-n-lt10.false c.requires.below)
