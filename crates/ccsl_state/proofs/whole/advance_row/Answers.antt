-- The table of calls is the system's, and there is room for the regions.
use Rattle.std.proofs.lemmas.Grind.{common_steps}
use Rattle.std.proofs.Common.{◌≡◌, ◌+◌, ◌*◌, length, arith}
use Rattle.ccsl_state.proofs.WholeLaws.{whole_regions, row_advances}
use Rattle.ccsl_state.proofs.whole.advance_row.Goals as goal

pub advance_from-requires : goal.advance_from-requires
advance_from-requires c = grind (arith, common_steps, whole_regions)

pub returns : goal.returns
returns c =
    let K = c.args.lay.now.system.now in
    let first : K.declared + 0 ≡ K.declared = omega arith in
    let few : length c.split_at_mut-front.result.1.now ≡ 2 * length K.constraints =
    (let back = c.split_at_mut-front.ensures.back_len in let end = c.before_counts-end.ensures in omega arith) in
    let r = row_advances K c.requires.accepted c.args.lay.now.earlier.now c.requires.whole.calls c.args.declared.now c.advance_from.new.step
    c.advance_from.new.gone c.split_at_mut-front.result.0.now c.split_at_mut-front.result.1.now c.advance_from.new.row c.count_ticks.new.cells c.args.row.now
    c.split_at_mut-front.ensures.value c.advance_from.auto.row few c.count_ticks.auto.cells c.requires.whole.size c.requires.below
    (rw (c.copy-step.ensures, c.empty-gone.ensures, first) at c.advance_from.ensures.trees)
    (rw (c.copy-step.ensures, first) at c.advance_from.ensures.step) (rw (c.empty-gone.ensures, first) at c.advance_from.ensures.gone) c.count_ticks.ensures in
    record { step = r.derived; next = r.next; gone = r.deaths; below = r.below }
