use Rattle.std.proofs.Common.{arith}
use Rattle.ccsl_triggers.specs.Held.{settle_held}
use Rattle.ccsl_events.proofs.Slices.{replaced-got}
use Rattle.ccsl_events.proofs.values.settle_one.Goals as goal

pub returns-in_ok-settle : goal.returns-in_ok-settle
returns-in_ok-settle c =
    replaced-got settle_held c.args.signals.now c.args.number _ c.settle.new.self (omega (arith, c.if-number-signals.true)) c.in_ok-settle.ensures
