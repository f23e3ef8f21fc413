use Rattle.std.proofs.Common.{◌-◌, length}
use Rattle.ccsl_formula.specs.Known.{known}
use Rattle.ccsl_solve.specs.Plan.{AreSettled}
use Rattle.ccsl_solve.proofs.plan.open_wish.Given as goal

abbrev pub invariant-loop-next : goal.invariant-loop-next
invariant-loop-next l = AreSettled l.wishes l.next (known l.part)

abbrev pub decreases-loop-next : goal.decreases-loop-next
decreases-loop-next l = length l.wishes - l.next
