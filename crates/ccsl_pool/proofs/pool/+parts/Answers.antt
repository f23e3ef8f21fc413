use Rattle.std.proofs.Common.{◌++◌, subst, sym, rules}
use Rattle.ccsl_pool.specs.Pairwise.{Pairwise}
use Rattle.ccsl_pool.proofs.Taking.{pairwise_join}
use Rattle.ccsl_pool.proofs.pool.+parts.Goals as goal

pub start_each-returns : goal.start_each-returns
start_each-returns g t c =
    let both = pairwise_join _ _ _ _ _ c.start_one_of.ensures.one_taken c.start_one_of.ensures.others_taken in
    subst (λ pieces. Pairwise (λ p q. g.P.Piece.takes p c.args.block.now.rows q) pieces (c.start_one_of.new.one ++ c.start_one_of.new.others))
    (sym c.split_at_mut-one.ensures.value) both

pub start_each-returns-then-parts-le1 : goal.start_each-returns-then-parts-le1
start_each-returns-then-parts-le1 g t c = search rules
