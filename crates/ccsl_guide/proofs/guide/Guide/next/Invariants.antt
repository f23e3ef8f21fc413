use Rattle.std.proofs.Common.{vec_len}
use Rattle.ccsl_guide.specs.Fits.{Fits}
use Rattle.ccsl_guide.proofs.guide.Guide.next.Given as goal

abbrev pub invariant-loop-item : goal.invariant-loop-item
invariant-loop-item l = Fits l.problem l.self

abbrev pub decreases-loop-item : goal.decreases-loop-item
decreases-loop-item l = vec_len l.self.items

abbrev pub invariant-loop-lit : goal.invariant-loop-lit
invariant-loop-lit l = Fits l.problem l.self

abbrev pub decreases-loop-lit : goal.decreases-loop-lit
decreases-loop-lit l = vec_len l.self.falsified
