use Rattle.std.proofs.Common.{[], refl, arith}
use Rattle.std.proofs.lemmas.Grind.{common_steps}
use Rattle.ccsl_edge.proofs.OneSlot.{Fails-at}
use Rattle.ccsl_files.proofs.Untold.{slot-within, Closes-untold}
use Rattle.ccsl_files.proofs.file_world.FileWorldWorld.close_out.Goals as goal

pub offset_bounds-self-inside-index : goal.offset_bounds-self-inside-index
offset_bounds-self-inside-index g c = grind (arith, common_steps)

pub bounds-self-inside-index : goal.bounds-self-inside-index
bounds-self-inside-index g c = slot-within c.args.slot c.index.ensures refl

pub listed : goal.listed
listed g c = slot-within c.args.slot c.index.ensures (omega arith)

pub returns-then-is_err-clause-err : goal.returns-then-is_err-clause-err
returns-then-is_err-clause-err g c =
    rw (← c.self.view_is)
    (Fails-at [] c.self.inside.slots c.args.slot _ _ _ c.index.ensures (omega arith) (rw c.finish.ensures at c.fail.ensures.after)
    (rw c.finish.ensures at c.fail.ensures.rose))

pub returns-clause-ok : goal.returns-clause-ok
returns-clause-ok g c =
    rw (← c.self.view_is)
    (Closes-untold c.self.inside.slots c.args.slot _ _ _ c.index.ensures (omega arith) (rw c.finish.ensures at c.close.ensures))
