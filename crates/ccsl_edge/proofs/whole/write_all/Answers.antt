use Rattle.std.proofs.Common.{rules}
use Rattle.std.proofs.lemmas.Result.{err_from_is_err_and}
use Rattle.ccsl_edge.proofs.Writing.{IsAdding-more, IsAdding-fails}
use Rattle.ccsl_edge.proofs.whole.write_all.Goals as goal

pub returns-in_err-count-clause-err : goal.returns-in_err-count-clause-err
returns-in_err-count-clause-err g c =
    let p = err_from_is_err_and c.from_residual.result c.from_residual.ensures.1 in
    rw p.1 (IsAdding-fails _ _ _ _ _ _ _ c.loop-rest.invariant c.in_err-count.ensures.err)

pub loop-rest-preserved : goal.loop-rest-preserved
loop-rest-preserved g c =
    rw c.split_at.ensures.back
    (IsAdding-more _ _ _ _ c.in_ok-count.count _ _ _ c.loop-rest.invariant c.in_ok-count.ensures.ok)

pub returns-clause-err : goal.returns-clause-err
returns-clause-err g c = search rules
