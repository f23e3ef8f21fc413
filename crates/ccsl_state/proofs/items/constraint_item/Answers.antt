-- The two counts of a constraint.
use Rattle.std.proofs.Common.{◌≡◌, ◌+◌, ◌-◌, ◌*◌, length, drop, slice_index, sym, ap, ap₂, ◌∙◌, arith}
use Rattle.ccsl_kernel.specs.Items.{relation_formula}
use Rattle.ccsl_state.specs.Layout.{count_of}
use Rattle.ccsl_state.specs.Held.{calls_of}
use Rattle.ccsl_state.specs.Whole.{held_at}
use Rattle.ccsl_state.proofs.StandLaws.{trees_len, constraint_is}
use Rattle.ccsl_state.proofs.items.constraint_item.Goals as goal

pub returns : goal.returns
returns c =
    let K = c.args.lay.now.system.now in
    let row = c.args.row.now in
    let con = c.constraint-constraint.result.now in
    let end : c.before_counts.result ≡ length row - 2 * length K.constraints = (let e = c.before_counts.ensures in omega arith) in
    let counts : c.split_at.result.1.now ≡ drop (length row - 2 * length K.constraints) row = c.split_at.ensures.back ∙ ap (λ k. drop k row) end in
    c.in_ok-relation_formula.ensures
    ∙ ap₂ (relation_formula con.kind con.left con.right)
    (c.count_at-left.ensures ∙ ap (λ cells. count_of (slice_index cells (2 * c.args.j))) counts)
    (c.count_at-right.ensures ∙ ap (λ cells. count_of (slice_index cells (2 * c.args.j + 1))) counts)
    ∙ sym (constraint_is (held_at c.args.lay.now row) c.requires.accepted (trees_len K (calls_of K) K.definitions row) c.args.j con
    c.constraint-constraint.ensures.constraint)
