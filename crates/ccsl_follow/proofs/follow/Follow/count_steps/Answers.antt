use Rattle.std.proofs.Common.{◌++◌, take, ◌∙◌, arith}
use Rattle.ccsl_relate.proofs.Blocks.{few-rows}
use Rattle.ccsl_follow.proofs.Counted.{counted-next}
use Rattle.ccsl_follow.proofs.follow.Follow.count_steps.Goals as goal

pub loop-i-preserved : goal.loop-i-preserved
loop-i-preserved c =
    let at = c.loop-i in
    let block = c.args.block.now.rows in
    record {
      counted = λ rows has few.
          counted-next c.count_next.new.self.steps.part c.count_next.new.self.counts rows block at.i c.row.result.now c.row.ensures
          (c.count_next.ensures.counted (rows ++ take at.i block) (at.invariant.counted rows has few) (few-rows block at.i rows (omega arith) few));
      made = c.count_next.ensures.made ∙ at.invariant.made;
      broken = c.count_next.ensures.broken ∙ at.invariant.broken;
    }
