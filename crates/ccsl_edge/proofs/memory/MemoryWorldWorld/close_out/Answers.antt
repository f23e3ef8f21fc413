use Rattle.std.proofs.Common.{◌≡◌, length, arith}
use Rattle.ccsl_edge.proofs.OneSlot.{Fails-at}
use Rattle.ccsl_edge.proofs.memory.MemoryWorldWorld.close_out.Goals as goal

pub returns-in_default-clause-err : goal.returns-in_default-clause-err
returns-in_default-clause-err c =
    let long : length c.self.inside.slots ≡ 7 = omega arith in
    rw (← c.self.view_is, c.in_default.ensures.err)
    (Fails-at _ _ c.args.slot _ _ _ c.index.ensures long
    c.starve.ensures.after c.starve.ensures.rose)
