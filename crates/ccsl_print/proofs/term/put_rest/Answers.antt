use Rattle.std.proofs.Common.{arith}
use Rattle.ccsl_grammar.specs.Grammar.{signed_spelled}
use Rattle.ccsl_print.proofs.Turns.{turn}
use Rattle.ccsl_print.proofs.term.put_rest.Goals as goal

pub loop-signed-preserved : goal.loop-signed-preserved
loop-signed-preserved c =
    turn signed_spelled _ _ _ c.args.rest.now c.loop-signed.signed-index c.signed-item.result (omega arith) c.signed-item.is c.loop-signed.invariant
    c.in_ok-put_signed.ensures
