use Rattle.ccsl_periodic.proofs.Plain.{behind_at_end}
use Rattle.ccsl_periodic.proofs.filtered.behind_both.Goals as goal

pub returns-clause-place : goal.returns-clause-place
returns-clause-place c =
    let past = rw (c.prefix_len-start.ensures.prefix, c.prefix_len-wanted.ensures.prefix, c.period_len.ensures.period) at c.loop-k-test.false in
    rw (c.prefix_len-start.ensures.prefix, c.prefix_len-wanted.ensures.prefix, c.period_len.ensures.period)
    (behind_at_end c.args.left.now c.args.right.now c.requires.infinite c.requires.some c.loop-k.k past c.loop-k.invariant.before)
