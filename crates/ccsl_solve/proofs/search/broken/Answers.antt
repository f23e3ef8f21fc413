use Rattle.std.proofs.Common.{reverse, ap}
use Rattle.ccsl_solve.proofs.Clauses.{clause-conflict}
use Rattle.ccsl_solve.proofs.search.broken.Goals as goal

pub returns-clause-conflict : goal.returns-clause-conflict
returns-clause-conflict c =
    rw c.in_ok-conflict.ensures.part
    (clause-conflict (ap reverse c.in_ok-conflict.ensures.hints) c.in_ok-clash.ensures.clause c.in_ok-clash.ensures.within)
