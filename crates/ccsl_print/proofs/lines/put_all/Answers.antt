use Rattle.std.proofs.Common.{arith}
use Rattle.ccsl_print.proofs.Turns.{lines_turn}
use Rattle.ccsl_print.proofs.lines.put_all.Goals as goal

pub loop-item-preserved : goal.loop-item-preserved
loop-item-preserved g c =
    lines_turn g.T.Lined.lines _ _ _ c.args.items.now c.loop-item.item-index c.item-item.result (omega arith) c.item-item.is c.loop-item.invariant
    c.in_ok-put_lines.ensures
