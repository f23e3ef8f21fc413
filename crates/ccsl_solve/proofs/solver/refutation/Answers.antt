use Rattle.ccsl_solve.specs.Posed.{asked}
use Rattle.ccsl_solve.proofs.Answering.{refuted}
use Rattle.ccsl_solve.proofs.solver.refutation.Goals as goal

pub returns : goal.returns
returns c = λ p within.
    let q = c.args.problem.now in
    let derived = c.in_ok-derived.ensures in
    rw c.new.ensures (refuted q.scope (asked q) derived.lines.valid derived.clause within derived.last)
