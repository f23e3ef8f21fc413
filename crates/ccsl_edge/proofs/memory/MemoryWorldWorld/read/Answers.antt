use Rattle.std.proofs.Common.{◌≡◌, length, arith}
use Rattle.ccsl_edge.specs.Memory.{tells_all}
use Rattle.ccsl_edge.proofs.OneSlot.{Takes-at}
use Rattle.ccsl_edge.proofs.memory.MemoryWorldWorld.read.Goals as goal

pub returns-clause-ok : goal.returns-clause-ok
returns-clause-ok c =
    let long : length c.self.inside.slots ≡ 7 = omega arith in
    rw (← c.self.view_is)
    (Takes-at tells_all _ _ c.args.slot _ _ _ _ _ _ _ c.index.ensures long c.take.ensures.rest c.take.ensures.moved
    c.self.invariant c.requires.room c.take.auto.buf c.take.ensures.count)
