use Rattle.std.proofs.Common.{subst}
use Rattle.ccsl_certify.specs.Replaying.{Stands}
use Rattle.ccsl_certify.proofs.trace.Replaying.take_all.Goals as goal

pub take_next-requires : goal.take_next-requires
take_next-requires g c = let w = c.requires.goes in record { goes = (w.0, w.1, w.2, c.loop-rows.invariant w.0 w.1 w.2 w.3) }

pub returns-in-Ok-Some-clause-ended : goal.returns-in-Ok-Some-clause-ended
returns-in-Ok-Some-clause-ended g c = λ K limits start s.
    subst (λ o. Stands g.W.World.told K limits start (g.W.World.state c.take_next.new.world) o c.take_next.new.self.feed c.take_next.new.self.follower)
    c.in-Ok-Some.field-0-is
    (c.in-Ok-Some.ensures.stands K limits start (c.loop-rows.invariant K limits start s))
