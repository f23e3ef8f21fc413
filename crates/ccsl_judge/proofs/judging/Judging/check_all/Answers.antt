use Rattle.std.proofs.Common.{subst}
use Rattle.ccsl_judge.specs.Going.{Stands}
use Rattle.ccsl_judge.proofs.judging.Judging.check_all.Goals as goal

pub check_next-requires-clause-goes : goal.check_next-requires-clause-goes
check_next-requires-clause-goes g c = λ κs b.
    let w = c.requires.goes in
    (w.0, w.1, w.2, c.loop-rows.invariant w.0 w.1 w.2 w.3)

pub returns-in-Ok-Some-clause-ended : goal.returns-in-Ok-Some-clause-ended
returns-in-Ok-Some-clause-ended g c = λ K limits start s.
    subst (λ e. Stands g.W.World.told K limits start (g.W.World.state c.check_next.new.world) e c.check_next.new.self.feed c.check_next.new.self.shares.items)
    c.in-Ok-Some.field-0-is
    (c.in-Ok-Some.ensures.stands K limits start (c.loop-rows.invariant K limits start s))
