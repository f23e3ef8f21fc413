use Rattle.std.proofs.Common.{List, map, slice_index_or, sym, ap, ◌∙◌, arith}
use Rattle.std.proofs.lemmas.List.{take_all}
use Rattle.ccsl_base.specs.Clocks.{ticks_in}
use Rattle.ccsl_base.specs.declared.rows.Row.{Row}
use Rattle.ccsl_causes.specs.Counted.{counted, counted_over}
use Rattle.ccsl_causes.proofs.Over.{over-row}
use Rattle.ccsl_follow.proofs.counting.count_rows.Goals as goal

pub loop-i-preserved : goal.loop-i-preserved
loop-i-preserved c =
    let at = c.loop-i in
    let row = c.row-row.result.now in
    record {
      clocks = c.count_step.ensures.clocks ∙ at.invariant.clocks;
      counts = λ x within.
          c.count_step.ensures.counts x (omega (arith, within, at.invariant.clocks))
          ∙ ap (counted (ticks_in x row.ticks)) (at.invariant.counts x within)
          ∙ sym (over-row x c.args.block.now.rows at.i row _ c.row-row.ensures);
    }

pub returns-clause-counts : goal.returns-clause-counts
returns-clause-counts c = λ x within.
    c.loop-i.invariant.counts x within
    ∙ ap (λ (rs : List Row). counted_over x (map (λ row. row.ticks) rs) (slice_index_or c.args.counts.now x 0))
    (take_all c.loop-i.i c.args.block.now.rows (omega arith))
