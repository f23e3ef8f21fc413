use Rattle.std.proofs.Common.{append_assoc}
use Rattle.itoa.proofs.Decimal.{PAIRS_at}
use Rattle.ccsl_vcd_write.proofs.digits.put_pair.Goals as goal

pub returns-clause-text : goal.returns-clause-text
returns-clause-text c =
    let digits = PAIRS_at c.args.n c.requires.below in
    rw (c.push_reserved-2.ensures.items, c.push_reserved.ensures.items, digits.0, digits.1, append_assoc)
