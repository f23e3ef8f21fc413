-- The own cells stand in front.
use Rattle.std.proofs.Common.{drop, option_map, sym, ap, ap₂, ◌∙◌}
use Rattle.ccsl_base.specs.Clocks.{ticks_in}
use Rattle.ccsl_state.specs.Tree.{two_next}
use Rattle.ccsl_state.specs.Layout.{own_cells, two_at}
use Rattle.ccsl_state.specs.Nodes.{node_dead}
use Rattle.ccsl_state.proofs.Frame.{two_front}
use Rattle.ccsl_state.proofs.Regions.{behind_head}
use Rattle.ccsl_state.proofs.flat.two_clocks.Goals as goal

pub returns-clause-node : goal.returns-clause-node
returns-clause-node c =
    let op = c.args.op in
    let head = c.split_at_mut-head.result.0.now in
    let back = c.split_at_mut-head.result.1.now in
    let len = c.split_at_mut-head.ensures.front_len ∙ c.own_cells.ensures.own in
    two_front op c.two_moved.new.head back (c.two_moved.auto.head ∙ len) ∙ c.two_moved.ensures
    ∙ ap₂ (λ t u. option_map (λ o. two_next o t u) (two_at op head)) c.has-left.ensures.member c.has-right.ensures.member
    ∙ ap (option_map (λ o. two_next o (ticks_in c.args.x c.args.step.now) (ticks_in c.args.y c.args.step.now)))
    (sym (two_front op head back len) ∙ ap (two_at op) (sym c.split_at_mut-head.ensures.value))

pub returns-clause-dead : goal.returns-clause-dead
returns-clause-dead c =
    let op = c.args.op in
    let len = c.two_moved.auto.head ∙ c.split_at_mut-head.ensures.front_len ∙ c.own_cells.ensures.own in
    c.two_dead.ensures ∙ ap₂ (node_dead (two_at op c.two_moved.new.head)) c.has.ensures.member c.has-2.ensures.member
    ∙ ap (λ o. node_dead o (ticks_in c.args.x c.args.gone.now) (ticks_in c.args.y c.args.gone.now))
    (sym (two_front op c.two_moved.new.head c.split_at_mut-head.result.1.now len))

pub returns-clause-rest : goal.returns-clause-rest
returns-clause-rest c =
    let own = own_cells c.args.op in
    let back = c.split_at_mut-head.result.1.now in
    let len = c.split_at_mut-head.ensures.front_len ∙ c.own_cells.ensures.own in
    behind_head own c.two_moved.new.head back (c.two_moved.auto.head ∙ len)
    ∙ sym (behind_head own c.split_at_mut-head.result.0.now back len) ∙ ap (drop own) (sym c.split_at_mut-head.ensures.value)
