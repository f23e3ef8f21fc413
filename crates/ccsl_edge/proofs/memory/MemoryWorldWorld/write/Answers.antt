use Rattle.std.proofs.Common.{◌≡◌, length, arith, rules}
use Rattle.std.proofs.lemmas.Grind.{common_steps}
use Rattle.ccsl_edge.proofs.OneSlot.{Fails-at, Adds-at}
use Rattle.ccsl_edge.proofs.memory.MemoryWorldWorld.write.Goals as goal

pub returns-then-is_due-clause-err : goal.returns-then-is_due-clause-err
returns-then-is_due-clause-err c =
    let long : length c.self.inside.slots ≡ 7 = omega arith in
    rw (← c.self.view_is) (Fails-at _ _ c.args.slot _ _ _ c.index.ensures long c.fail.ensures.after c.fail.ensures.rose)

pub returns-in_default-clause-err : goal.returns-in_default-clause-err
returns-in_default-clause-err c =
    let long : length c.self.inside.slots ≡ 7 = omega arith in
    rw (← c.self.view_is)
    (Fails-at _ _ c.args.slot _ _ _ c.index.ensures long
    (rw c.in_default.ensures.err at c.starve.ensures.after) (rw c.in_default.ensures.err at c.starve.ensures.rose))

pub returns-clause-ok : goal.returns-clause-ok
returns-clause-ok c =
    let long : length c.self.inside.slots ≡ 7 = omega arith in
    rw (← c.self.view_is) (Adds-at _ _ c.args.slot _ _ _ _ c.index.ensures long c.in-Ok.ensures.ok)

pub returns-in_default-clause-once : goal.returns-in_default-clause-once
returns-in_default-clause-once c = grind (arith, common_steps)

pub returns-in_default-clause-fails : goal.returns-in_default-clause-fails
returns-in_default-clause-fails c = search rules

pub returns-clause-succeeds : goal.returns-clause-succeeds
returns-clause-succeeds c = search rules
