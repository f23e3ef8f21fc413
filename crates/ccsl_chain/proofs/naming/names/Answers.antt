-- Each name is new behind those before it.
use Rattle.std.proofs.Common.{◌∙◌, arith}
use Rattle.ccsl_chain.proofs.NewNames.{hidden_added, length-so_far}
use Rattle.ccsl_chain.proofs.naming.names.Goals as goal

pub add-requires : goal.add-requires
add-requires c = record { room = omega (arith, length-so_far c.loop-i.names c.args.clocks c.loop-i.i c.loop-i.invariant) }

pub loop-i-preserved : goal.loop-i-preserved
loop-i-preserved c =
    hidden_added c.args.clocks c.loop-i.names c.add.new.self c.deref.result.now c.loop-i.i c.in_ok-add.field-0 (omega arith)
    (c.deref.ensures.value ∙ c.in_ok-hidden_name.ensures) c.loop-i.invariant c.in_ok-add.ensures.added
