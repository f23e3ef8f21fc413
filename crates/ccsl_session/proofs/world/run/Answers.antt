use Rattle.std.proofs.Common.{◌≡◌, ap, rules}
use Rattle.ccsl_session.specs.Answering.{system_of}
use Rattle.ccsl_session.proofs.world.run.Goals as goal

pub returns-in-Some-clause-ended : goal.returns-in-Some-clause-ended
returns-in-Some-clause-ended g c = λ limit first.
    let task = c.lines.invariant.task in
    let system : system_of c.lines.session ≡ system_of c.args.session.now = ap (λ s. s.now) task.system in
    rw (← system, ← task.policy, ← task.seed)
    (rw c.in-Some.is at c.in_ok-end.ensures.turns (g.W.World.state c.args.world.now) limit
    (rw (system, task.policy, task.seed) (c.lines.invariant.goes limit first)))

pub returns-in-Some-clause-cut : goal.returns-in-Some-clause-cut
returns-in-Some-clause-cut c = search rules
