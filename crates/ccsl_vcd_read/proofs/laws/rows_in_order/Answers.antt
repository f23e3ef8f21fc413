use Rattle.ccsl_vcd_read.proofs.RowOrder.{recorded-in-order, done-in-order}
use Rattle.ccsl_vcd_read.proofs.laws.rows_in_order.Goals as goal

pub returns-clause-whole : goal.returns-clause-whole
returns-clause-whole c = recorded-in-order

pub returns-clause-front : goal.returns-clause-front
returns-clause-front c = done-in-order
