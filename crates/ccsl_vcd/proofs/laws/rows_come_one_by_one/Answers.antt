use Rattle.ccsl_vcd.proofs.OneRow.{one-row-a-byte, one-row-at-the-end}
use Rattle.ccsl_vcd.proofs.laws.rows_come_one_by_one.Goals as goal

pub returns-clause-byte : goal.returns-clause-byte
returns-clause-byte c = one-row-a-byte

pub returns-clause-end : goal.returns-clause-end
returns-clause-end c = one-row-at-the-end
