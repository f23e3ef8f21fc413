use Rattle.ccsl_events_top.proofs.Ending.{stops-whole, stops-cut}
use Rattle.ccsl_events_top.proofs.pass.Pass.stop.Goals as goal

pub returns-in-Ok : goal.returns-in-Ok
returns-in-Ok g c start plan head text before h =
    stops-whole g.W.World.told c.args.sink start _ _ plan head text before c.args.self.now c.args.stop c.in_default.not-Memory h c.in-Ok.ensures.ok

pub returns-in-Err : goal.returns-in-Err
returns-in-Err g c start plan head text before h =
    stops-cut g.W.World.told c.args.sink start _ _ plan head text before c.args.self.now c.args.stop c.in_default.not-Memory h c.in-Err.ensures.err
