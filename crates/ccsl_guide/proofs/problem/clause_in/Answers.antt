use Rattle.ccsl_guide.proofs.Clauses.{clause-below}
use Rattle.ccsl_guide.proofs.problem.clause_in.Goals as goal

pub returns : goal.returns
returns c =
    let q = c.args.problem.now in
    rw (c.clause_of.ensures q.scope.declared q.members) (clause-below q.scope c.args.line.now q.declared c.requires)
