use Rattle.std.proofs.Common.{[]}
use Rattle.std.proofs.lemmas.Result.{IfOk-at_ok, IfErr-at_err, err_from_is_err_and}
use Rattle.ccsl_base.proofs.Cases.{if_ok_each, if_err_each}
use Rattle.ccsl_session.specs.Laws.{empty}
use Rattle.ccsl_session.specs.Answering.{system_of, sets_of}
use Rattle.ccsl_session.specs.Going.{Goes}
use Rattle.ccsl_session.proofs.Turning.{opens, nothing-cut}
use Rattle.ccsl_session.proofs.world.session.Given as given
use Rattle.ccsl_session.proofs.world.session.Goals as goal
use Rattle.ccsl_session.proofs.world.session.Goals.{In_ok-session}

pub returns-in_err-lines-clause-cut : goal.returns-in_err-lines-clause-cut
returns-in_err-lines-clause-cut g c =
    let p = err_from_is_err_and c.from_residual.result c.from_residual.ensures.1 in
    rw (p.1, p.2) (nothing-cut g.W.World.told c.args.system.now c.args.policy c.args.seed c.args.limit (g.W.World.state c.args.world.now))

pub returns-in_err-session-clause-cut : goal.returns-in_err-session-clause-cut
returns-in_err-session-clause-cut g c =
    let r = c.from_residual-in_err-session in
    let p = err_from_is_err_and r.result r.ensures.1 in
    rw (p.1, p.2) (nothing-cut g.W.World.told c.args.system.now c.args.policy c.args.seed c.args.limit (g.W.World.state c.args.world.now))

pub run-requires-clause-stack : goal.run-requires-clause-stack
run-requires-clause-stack g c = rw c.in_ok-session.ensures.sets empty

-- nothing is read or answered
goes : (g : given.Over) (c : In_ok-session g) → let session = c.in_ok-session.session in let start = g.W.World.state c.args.world.now in
    Goes g.W.World.told (system_of session) session.policy session.seed c.args.limit start start c.in_ok-lines.lines (sets_of session) []
goes g c =
    let session = c.in_ok-session.session in
    let start = g.W.World.state c.args.world.now in
    let lines = c.in_ok-lines.ensures in
    simp c.in_ok-session.ensures.sets
    (opens g.W.World.told (system_of session) session.policy session.seed c.args.limit start c.in_ok-lines.lines lines.limit lines.stands lines.runs)

pub returns-clause-ended : goal.returns-clause-ended
returns-clause-ended g c =
    if_ok_each c.run.result _
    (λ ended is.
    let e = c.in_ok-session.ensures in
    rw (← e.system, ← e.policy, ← e.seed)
    (IfOk-at_ok _ is c.run.ensures.ended c.args.limit (goes g (goal.at.returns-clause-ended g c).In_ok-session)))

pub returns-clause-cut : goal.returns-clause-cut
returns-clause-cut g c =
    if_err_each c.run.result _
    (λ fault is.
    let e = c.in_ok-session.ensures in
    rw (← e.system, ← e.policy, ← e.seed)
    (IfErr-at_err _ is c.run.ensures.cut c.args.limit (goes g (goal.at.returns-clause-cut g c).In_ok-session)))
