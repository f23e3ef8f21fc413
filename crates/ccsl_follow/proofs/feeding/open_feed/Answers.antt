use Rattle.std.proofs.Common.{[]}
use Rattle.ccsl_bind.specs.Collected.{wanted_of}
use Rattle.ccsl_follow.proofs.feeding.open_feed.Goals as goal

pub returns-in-Ok : goal.returns-in-Ok
returns-in-Ok g c =
    let now = g.W.World.state c.args.world.now in
    record { wanted = wanted_of c.args.system.now; limits = _; start = now; rows = []; feeds = c.in-Ok.ensures.feeds g.W.World.told now }
