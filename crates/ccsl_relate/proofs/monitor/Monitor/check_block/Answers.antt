use Rattle.ccsl_relate.proofs.monitor.Monitor.check_block.Goals as goal

pub returns-clause-stands : goal.returns-clause-stands
returns-clause-stands c = let t = rw c.rows.ensures at c.check_rows.ensures in t.stands
