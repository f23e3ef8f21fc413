use Rattle.std.proofs.Common.{◌≡◌, take, drop}
use Rattle.ccsl_pool.specs.Pairwise.{Pairwise}
use Rattle.ccsl_pool.proofs.pool.work_each.Given as goal

-- the pieces before the present one have worked, and the others are as they were
abbrev pub invariant-loop-piece : goal.invariant-loop-piece
invariant-loop-piece g l =
    Pairwise (λ p q. g.P.Piece.takes p l.block.rows q) (take l.piece-index l.initial.pieces) (take l.piece-index l.pieces)
    × (drop l.piece-index l.pieces ≡ drop l.piece-index l.initial.pieces)
