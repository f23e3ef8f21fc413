use Rattle.std.proofs.Common.{[]}
use Rattle.ccsl_bind.specs.Collected.{wanted_of}
use Rattle.ccsl_trace.proofs.Giving.{first-given}
use Rattle.ccsl_judge.proofs.judging.Judging.begin.Goals as goal

pub next-requires : goal.next-requires
next-requires g c =
    let now = g.W.World.state c.args.world.now in
    record { feeds = (wanted_of c.args.system.now, c.args.limits.now, now, [], c.in-Ok.ensures.feeds g.W.World.told now) }

pub returns-in-Err-next-clause-unread : goal.returns-in-Err-next-clause-unread
returns-in-Err-next-clause-unread g c =
    let start = g.W.World.state c.args.world.now in
    c.in-Err-next.ensures.unread (wanted_of c.args.system.now) c.args.limits.now start [] (c.in-Ok.ensures.feeds g.W.World.told start)

pub returns-in-Ok-shares_for-clause-goes : goal.returns-in-Ok-shares_for-clause-goes
returns-in-Ok-shares_for-clause-goes g c =
    let K = c.args.system.now in
    let start = g.W.World.state c.args.world.now in
    let now = g.W.World.state c.next.new.world in
    let given = c.in-Ok-next.ensures.gives (wanted_of K) c.args.limits.now start [] (c.in-Ok.ensures.feeds g.W.World.told start) in
    let first = first-given g.W.World.told (wanted_of K) c.args.limits.now start now _ c.in-Ok.ensures.unbound c.in-Ok-next._header c.next.new.self [] given in
    record { bound = first.bound; rows = []; shows = first.shows; feeds = first.feeds; follow = c.in-Ok-shares_for.ensures first.bound first.shows }

pub returns-in-Err-shares_for-clause-unread : goal.returns-in-Err-shares_for-clause-unread
returns-in-Err-shares_for-clause-unread g c =
    let K = c.args.system.now in
    let start = g.W.World.state c.args.world.now in
    let now = g.W.World.state c.next.new.world in
    let given = c.in-Ok-next.ensures.gives (wanted_of K) c.args.limits.now start [] (c.in-Ok.ensures.feeds g.W.World.told start) in
    (first-given g.W.World.told (wanted_of K) c.args.limits.now start now _ c.in-Ok.ensures.unbound c.in-Ok-next._header c.next.new.self [] given).near
