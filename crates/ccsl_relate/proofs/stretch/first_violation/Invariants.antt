use Rattle.ccsl_relate.proofs.Earliest.{IsSoFar}
use Rattle.ccsl_relate.proofs.stretch.first_violation.Given as goal

abbrev pub invariant-loop-i : goal.invariant-loop-i
invariant-loop-i l = IsSoFar l.rows l.steps l.others l.start l.fn.kept l.kept l.i l.end l.first
