use Rattle.std.proofs.Common.{[]}
use Rattle.ccsl_bind.specs.Collected.{wanted_of}
use Rattle.ccsl_trace.proofs.Giving.{first-given}
use Rattle.ccsl_certify.proofs.trace.follow_header.Goals as goal

pub returns-in-Err-clause-unread : goal.returns-in-Err-clause-unread
returns-in-Err-clause-unread g c = λ limits feeds. c.in-Err.ensures.unread (wanted_of c.args.system.now) limits (g.W.World.state c.args.world.now) [] feeds

pub returns-in-Ok-follower_for-clause-goes : goal.returns-in-Ok-follower_for-clause-goes
returns-in-Ok-follower_for-clause-goes g c = λ limits feeds.
    let K = c.args.system.now in
    let start = g.W.World.state c.args.world.now in
    let now = g.W.World.state c.next.new.world in
    let first = first-given g.W.World.told (wanted_of K) limits start now _ c.requires.unbound c.in-Ok._header c.next.new.self []
    (c.in-Ok.ensures.gives (wanted_of K) limits start [] feeds) in
    record { bound = first.bound; rows = []; shows = first.shows; feeds = first.feeds; follows = c.in-Ok-follower_for.ensures first.bound first.shows }

pub returns-in-Err-follower_for-clause-unread : goal.returns-in-Err-follower_for-clause-unread
returns-in-Err-follower_for-clause-unread g c = λ limits feeds.
    let K = c.args.system.now in
    let start = g.W.World.state c.args.world.now in
    let now = g.W.World.state c.next.new.world in
    (first-given g.W.World.told (wanted_of K) limits start now _ c.requires.unbound c.in-Ok._header c.next.new.self []
    (c.in-Ok.ensures.gives (wanted_of K) limits start [] feeds)).near
