use Rattle.std.proofs.Common.{take, get_or}
use Rattle.std.proofs.lemmas.List.{take_more}
use Rattle.ccsl_relate.proofs.History.{sets-snoc}
use Rattle.ccsl_relate.proofs.steps.rows_are_sets.Goals as goal

pub loop-i-preserved : goal.loop-i-preserved
loop-i-preserved c =
    let rows = c.args.rows.now in
    let d = c.index-rows-i.result in
    rw (take_more rows c.loop-i.i d c.loop-i-test.true)
    (sets-snoc (take c.loop-i.i rows) (get_or rows c.loop-i.i d) c.loop-i.invariant c.ascends.ensures.ascending)
