use Rattle.std.proofs.lemmas.Result.{err_from_is_err_and}
use Rattle.ccsl_events_top.proofs.Passing.{unended-header, nearer}
use Rattle.ccsl_events_top.proofs.Headers.{header-taken, header-waits}
use Rattle.ccsl_events_top.proofs.pass.Pass.header.Goals as goal

pub returns-in_err-step-clause-err : goal.returns-in_err-step-clause-err
returns-in_err-step-clause-err g c =
    let q = err_from_is_err_and c.from_residual.result c.from_residual.ensures.1 in
    rw (q.1, q.2) (λ sink start i. c.in_err-step.ensures.header sink start (c.loop-self.invariant sink start i))

pub returns-then-not-branch-clause-err : goal.returns-then-not-branch-clause-err
returns-then-not-branch-clause-err g c sink start i =
    let k = rw c.if-not-branch.true at (c.in_ok-step.ensures.header sink start (c.loop-self.invariant sink start i)) in
    unended-header g.W.World.told sink start _ c.step.new.self k.0 k.1

pub returns-in-Some-clause-ok : goal.returns-in-Some-clause-ok
returns-in-Some-clause-ok g c sink start i =
    let k = rw c.if-not-branch.false at (c.in_ok-step.ensures.header sink start (c.loop-self.invariant sink start i)) in
    header-taken g.W.World.told sink start _ c.loop-self.self.reader.taken c.step.new.self c.take_header.new.self c.take_header.result c.in-Some.header
    (record { behind = c.take_header.ensures.header; inside = c.take_header.ensures.goes_on }) c.in-Some.is k

pub loop-self-smaller : goal.loop-self-smaller
loop-self-smaller g c =
    let w = c.requires.begins in
    let k = rw c.if-not-branch.false at (c.in_ok-step.ensures.header w.0 w.1 (c.loop-self.invariant w.0 w.1 w.2)) in
    let n = header-waits g.W.World.told w.0 w.1 (g.W.World.state c.step.new.world) c.loop-self.self.reader.taken c.step.new.self c.take_header.new.self
    c.take_header.result (record { behind = c.take_header.ensures.header; inside = c.take_header.ensures.goes_on }) c.in-None.is k in
    nearer g.W.World.told w.0 w.1 (g.W.World.state c.step.new.world) _ c.loop-self.self.reader.taken n.0 n.1

pub loop-self-preserved : goal.loop-self-preserved
loop-self-preserved g c sink start i =
    let k = rw c.if-not-branch.false at (c.in_ok-step.ensures.header sink start (c.loop-self.invariant sink start i)) in
    let n = header-waits g.W.World.told sink start (g.W.World.state c.step.new.world) c.loop-self.self.reader.taken c.step.new.self c.take_header.new.self
    c.take_header.result (record { behind = c.take_header.ensures.header; inside = c.take_header.ensures.goes_on }) c.in-None.is k in
    n.0
