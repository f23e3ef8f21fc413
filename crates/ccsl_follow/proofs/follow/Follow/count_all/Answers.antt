use Rattle.ccsl_follow.proofs.Counted.{counted-block}
use Rattle.ccsl_follow.proofs.follow.Follow.count_all.Goals as goal
use Rattle.ccsl_follow.proofs.follow.Follow.count_all.Goals.{then-are_rows, else-are_rows}

pub returns-clause-counted : goal.returns-clause-counted
returns-clause-counted c = λ rows has few.
    let old = c.args.self.now in
    elim c.if-are_rows.branch [
      | then-are_rows w ↦
          rw w.self-is
          (counted-block old.steps.part old.counts w.count_rows.new.counts rows c.args.block.now.rows (c.are_rows.ensures w.if-are_rows.true) has few
          w.count_rows.ensures.clocks w.count_rows.ensures.counts)
      | else-are_rows w ↦ rw w.self-is (w.count_steps.ensures.counted rows has few)
    ]
