-- Two clocks behind the operator's own cells.
use Rattle.ccsl_state.proofs.Operands.{two_flat}
use Rattle.ccsl_state.proofs.flat.advance_flat.Goals as goal

pub returns-in-Two-clause-moved : goal.returns-in-Two-clause-moved
returns-in-Two-clause-moved c = λ lay e words ready flat.
    let f = rw c.in-Two.is at flat in
    let moved = c.two_clocks.ensures in
    two_flat lay e c.in-Two.op c.in-Two.x c.in-Two.y c.args.step.now c.args.gone.now c.args.row.now c.two_clocks.new.row c.two_clocks.result f.0 f.1
    moved.tick moved.node moved.dead
