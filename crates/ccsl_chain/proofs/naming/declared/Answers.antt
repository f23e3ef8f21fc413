-- Each name is new behind those before it.
use Rattle.std.proofs.Common.{◌∙◌, arith}
use Rattle.ccsl_chain.proofs.NewNames.{clock_added, length-declared}
use Rattle.ccsl_chain.proofs.naming.declared.Goals as goal

pub add-requires : goal.add-requires
add-requires c = record { room = omega (arith, length-declared c.loop-i.names c.loop-i.i c.loop-i.invariant) }

pub loop-i-preserved : goal.loop-i-preserved
loop-i-preserved c =
    clock_added c.loop-i.names c.add.new.self c.deref.result.now c.loop-i.i c.in_ok-add.field-0 (omega arith)
    (c.deref.ensures.value ∙ c.in_ok-clock_name.ensures) c.loop-i.invariant c.in_ok-add.ensures.added
