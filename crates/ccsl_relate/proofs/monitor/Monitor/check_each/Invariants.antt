use Rattle.std.proofs.Common.{take}
use Rattle.ccsl_relate.specs.Taking.{Takes}
use Rattle.ccsl_relate.proofs.monitor.Monitor.check_each.Given as goal

abbrev pub invariant-loop-i : goal.invariant-loop-i
invariant-loop-i l = Takes l.fn.self l.self (take l.i l.rows)
