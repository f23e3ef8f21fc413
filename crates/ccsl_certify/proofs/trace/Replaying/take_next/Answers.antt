use Rattle.ccsl_bind.specs.Collected.{wanted_of}
use Rattle.ccsl_trace.proofs.Giving.{given-few, not-bound}
use Rattle.ccsl_certify.proofs.Taking.{goes-on, has-ended}
use Rattle.ccsl_certify.proofs.trace.Replaying.take_next.Goals as goal

pub returns-in-Err-clause-unread : goal.returns-in-Err-clause-unread
returns-in-Err-clause-unread g c = λ K limits start s. c.in-Err.ensures.unread (wanted_of K) limits start s.rows s.feeds

pub take-requires : goal.take-requires
take-requires g c =
    let w = c.requires.goes in
    let s = w.3 in
    let now = g.W.World.state c.next.new.world in
    let given = c.in-Ok.ensures.gives (wanted_of w.0) w.1 w.2 s.rows s.feeds in
    let few = given-few g.W.World.told (wanted_of w.0) w.1 w.2 now _ s.bound s.shows c.next.new.self s.rows c.in-Ok.next given in
    (w.0, s.bound, s.rows, s.follows, rw c.block.ensures few)

pub returns-in-Bound : goal.returns-in-Bound
returns-in-Bound g c =
    let w = c.requires.goes in
    let s = w.3 in
    let now = g.W.World.state c.next.new.world in
    let given = c.in-Ok.ensures.gives (wanted_of w.0) w.1 w.2 s.rows s.feeds in
    not-bound g.W.World.told (wanted_of w.0) w.1 w.2 now _ s.bound s.shows c.next.new.self s.rows (rw c.in-Bound.is at given)

pub returns-in-Rows-clause-stands : goal.returns-in-Rows-clause-stands
returns-in-Rows-clause-stands g c = λ K limits start s.
    let now = g.W.World.state c.next.new.world in
    let given = c.in-Ok.ensures.gives (wanted_of K) limits start s.rows s.feeds in
    let few = given-few g.W.World.told (wanted_of K) limits start now _ s.bound s.shows c.next.new.self s.rows c.in-Ok.next given in
    goes-on s.shows (rw c.block.ensures at c.take.ensures K s.bound s.rows s.follows few) (rw c.in-Rows.is at given)

pub returns-in-Ended-clause-stands : goal.returns-in-Ended-clause-stands
returns-in-Ended-clause-stands g c = λ K limits start s.
    let now = g.W.World.state c.next.new.world in
    let given = c.in-Ok.ensures.gives (wanted_of K) limits start s.rows s.feeds in
    let few = given-few g.W.World.told (wanted_of K) limits start now _ s.bound s.shows c.next.new.self s.rows c.in-Ok.next given in
    has-ended s.shows (rw c.block.ensures at c.take.ensures K s.bound s.rows s.follows few) c.in-Ended.counts (rw c.in-Ended.is at given)
