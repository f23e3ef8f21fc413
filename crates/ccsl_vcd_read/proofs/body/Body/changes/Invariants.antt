use Rattle.std.proofs.Common.{length}
use Rattle.ccsl_vcd_read.proofs.ShortChanges.{MadeTo}
use Rattle.ccsl_vcd_read.proofs.body.Body.changes.Given as goal

abbrev pub invariant-loop-rest : goal.invariant-loop-rest
invariant-loop-rest l = MadeTo l.fn.self l.self l.bytes l.rest

abbrev pub decreases-loop-rest : goal.decreases-loop-rest
decreases-loop-rest l = length l.rest
