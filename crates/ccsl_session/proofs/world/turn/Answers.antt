use Rattle.std.proofs.Common.{ap}
use Rattle.std.proofs.lemmas.Result.{IfOk-at_ok, IfErr-at_err, err_from_is_err_and}
use Rattle.ccsl_base.proofs.Cases.{if_ok_each, if_err_each}
use Rattle.ccsl_session.proofs.Turning.{read-cut, heard-asked, heard-end, answered, unanswered}
use Rattle.ccsl_session.proofs.world.turn.Goals as goal

pub returns-in_err-asked-clause-cut : goal.returns-in_err-asked-clause-cut
returns-in_err-asked-clause-cut g c =
    let p = err_from_is_err_and c.from_residual.result c.from_residual.ensures.1 in
    rw (p.1, p.2)
    (λ start limit goes.
    read-cut (record { taken = c.given_lines_are_taken.ensures; few = c.few_bytes_are_read.ensures; search = c.search_ends_no_line.ensures }) goes
    (g.W.World.state c.hear.new.world) c.in_err-asked.ensures.breaks)

pub returns-in-Asks-clause-stack : goal.returns-in-Asks-clause-stack
returns-in-Asks-clause-stack g c =
    if_ok_each c.reply.result _
    (λ end is.
    let session = c.args.session.now in
    let q = heard-asked (rw c.in-Asks.is at c.in_ok-asked.ensures.hears) in
    let done = IfOk-at_ok _ is c.reply.ensures.replies in
    rw (ap (λ s. s.now) c.reply.ensures.task.system, done.sets, q.1)
    (c.lines_leave_stacks.ensures session.stack.system.now c.requires.stands.accepted session.policy session.seed session.stack.sets.items c.requires.stack
    q.0))

pub returns-in-Asks-clause-turns : goal.returns-in-Asks-clause-turns
returns-in-Asks-clause-turns g c =
    if_ok_each c.reply.result _
    (λ end is start limit goes.
    let done = IfOk-at_ok _ is c.reply.ensures.replies in
    answered (record { taken = c.given_lines_are_taken.ensures; few = c.few_bytes_are_read.ensures; search = c.search_ends_no_line.ensures })
    (rw c.in-Asks.is at c.in_ok-asked.ensures.hears) goes done.adds done.sets done.ends)

pub returns-in-Asks-clause-cut : goal.returns-in-Asks-clause-cut
returns-in-Asks-clause-cut g c =
    if_err_each c.reply.result _
    (λ fault is start limit goes.
    unanswered (record { taken = c.given_lines_are_taken.ensures; few = c.few_bytes_are_read.ensures; search = c.search_ends_no_line.ensures })
    (rw c.in-Asks.is at c.in_ok-asked.ensures.hears) goes (g.W.World.state c.reply.new.world) fault (IfErr-at_err _ is c.reply.ensures.fails))

pub returns-in-Ends-clause-turns : goal.returns-in-Ends-clause-turns
returns-in-Ends-clause-turns g c = λ start limit goes.
    heard-end (record { taken = c.given_lines_are_taken.ensures; few = c.few_bytes_are_read.ensures; search = c.search_ends_no_line.ensures })
    (rw c.in-Ends.is at c.in_ok-asked.ensures.hears) goes
