use Rattle.std.proofs.Common.{arith, length-take-le}
use Rattle.std.proofs.lemmas.List.{take_more, take_all}
use Rattle.ccsl_relate.proofs.Blocks.{takes-both, may-take-on}
use Rattle.ccsl_relate.proofs.monitor.Monitor.check_each.Goals as goal

pub loop-i-preserved : goal.loop-i-preserved
loop-i-preserved c =
    rw (take_more c.args.rows.now c.loop-i.i c.index-rows-i.result c.loop-i-test.true, ← c.index-rows-i.is)
    (takes-both c.loop-i.invariant c.check_row.ensures)

pub check_row-requires : goal.check_row-requires
check_row-requires c = may-take-on _ 1 c.requires c.loop-i.invariant (omega (arith, length-take-le c.loop-i.i c.args.rows.now (omega arith)))

pub returns : goal.returns
returns c = rw (take_all c.loop-i.i c.args.rows.now (omega arith)) at c.loop-i.invariant
