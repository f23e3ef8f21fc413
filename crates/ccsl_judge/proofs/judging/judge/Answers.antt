use Rattle.std.proofs.Common.{rules}
use Rattle.ccsl_judge.proofs.judging.judge.Goals as goal

pub returns-in-Ok-check_all-clause-item : goal.returns-in-Ok-check_all-clause-item
returns-in-Ok-check_all-clause-item g c =
    let K = c.args.system.now in
    let ended = c.in-Ok-check_all.ensures.ended K c.args.limits.now (g.W.World.state c.args.world.now) c.in-Ok.ensures.goes in
    c.verdict_on.ensures.item K ended.bound ended.rows (c.first_of-first.ensures K ended.bound ended.rows (rw c.as_slice.ensures.value ended.follow))

pub returns-in-Err-check_all-clause-unread : goal.returns-in-Err-check_all-clause-unread
returns-in-Err-check_all-clause-unread g c = search rules
