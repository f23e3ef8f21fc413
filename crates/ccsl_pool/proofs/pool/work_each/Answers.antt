use Rattle.std.proofs.Common.{add-one, arith}
use Rattle.ccsl_pool.proofs.Taking.{pairwise_next}
use Rattle.ccsl_pool.proofs.pool.work_each.Goals as goal

pub loop-piece-preserved : goal.loop-piece-preserved
loop-piece-preserved g c =
    rw add-one (pairwise_next _ c.loop-piece.piece-index _ c.loop-piece.pieces c.piece-item.result c.work.new.self c.loop-piece.invariant.0
    c.loop-piece.invariant.1 (omega arith) c.work.ensures)
