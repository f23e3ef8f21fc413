-- The table of calls is the system's, and there is room for the regions.
use Rattle.std.proofs.lemmas.Grind.{common_steps}
use Rattle.std.proofs.Common.{◌≡◌, ◌+◌, ◌*◌, length, arith}
use Rattle.ccsl_state.proofs.WholeLaws.{whole_regions, row_opens}
use Rattle.ccsl_state.proofs.whole.open_row.Goals as goal

pub open_from-requires : goal.open_from-requires
open_from-requires c = grind (arith, common_steps, whole_regions)

pub returns : goal.returns
returns c =
    let K = c.args.lay.now.system.now in
    let first : K.declared + 0 ≡ K.declared = omega arith in
    let few : length c.split_at_mut-front.result.1.now ≡ 2 * length K.constraints =
    (let back = c.split_at_mut-front.ensures.back_len in let end = c.before_counts-end.ensures in omega arith) in
    let r = row_opens K c.requires.accepted c.args.lay.now.earlier.now c.requires.whole.calls c.open_from.new.gone
    c.split_at_mut-front.result.0.now c.split_at_mut-front.result.1.now c.open_from.new.row c.args.row.now c.split_at_mut-front.ensures.value
    c.open_from.auto.row few c.requires.whole.size c.open_from.ensures.trees (rw (c.empty-gone.ensures, first) at c.open_from.ensures.gone) in
    record { trees = r.trees; counts = r.counts; gone = r.deaths; below = r.below }
