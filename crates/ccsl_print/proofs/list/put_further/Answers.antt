use Rattle.std.proofs.Common.{arith, ap, ◌∙◌}
use Rattle.ccsl_grammar.specs.Grammar.{further_spelled}
use Rattle.ccsl_print.specs.Pages.{after}
use Rattle.ccsl_print.proofs.Turns.{turn}
use Rattle.ccsl_print.proofs.list.put_further.Goals as goal

pub loop-item-preserved : goal.loop-item-preserved
loop-item-preserved g c =
    turn (further_spelled g.T.Spelled.tokens) _ _ _ c.args.items.now c.loop-item.item-index c.item-item.result (omega arith) c.item-item.is
    c.loop-item.invariant
    (c.in_ok-put.ensures ∙ ap (λ z. after z (g.T.Spelled.tokens c.item-item.result)) c.in_ok-symbol.ensures)
