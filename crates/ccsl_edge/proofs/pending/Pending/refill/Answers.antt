use Rattle.std.proofs.Common.{arith}
use Rattle.ccsl_edge.proofs.Refilling.{refilled}
use Rattle.ccsl_edge.proofs.pending.Pending.refill.Goals as goal

pub returns-clause-ok : goal.returns-clause-ok
returns-clause-ok g c =
    refilled _ _ _ _ _ _ _ _ _ _ c.in_ok-count.ensures.ok
    (omega (arith, c.in_ok-count.ensures.few)) (omega (arith, c.in_ok-count.ensures.few)) (omega arith) (omega (arith, c.in_ok-count.ensures.few))
