use Rattle.std.proofs.Common.{ℕ, ◌≤◌, [], refl, arith}
use Rattle.std.specs.Prelude.{Result, Ok, Err, IfOk}
use Rattle.std.specs.Result.{result_unwrap_or}
use Rattle.std.proofs.lemmas.Grind.{common_steps}
use Rattle.ccsl_edge.proofs.OneSlot.{Fails-at}
use Rattle.ccsl_files.proofs.Untold.{slot-within, Adds-untold}
use Rattle.ccsl_files.proofs.file_world.FileWorldWorld.write.Goals as goal

within_or_none : {E : Type 0} (r : Result ℕ E) (most : ℕ) → IfOk r (λ n. n ≤ most) → result_unwrap_or r 0 ≤ most
within_or_none (Ok n) most h = h
within_or_none (Err e) most h = omega arith

pub offset_bounds-self-inside-index : goal.offset_bounds-self-inside-index
offset_bounds-self-inside-index g c = grind (arith, common_steps)

pub bounds-self-inside-index : goal.bounds-self-inside-index
bounds-self-inside-index g c = slot-within c.args.slot c.index.ensures refl

pub listed : goal.listed
listed g c = slot-within c.args.slot c.index.ensures (omega arith)

pub returns-then-count-eq0-clause-err : goal.returns-then-count-eq0-clause-err
returns-then-count-eq0-clause-err g c =
    rw (← c.self.view_is)
    (Fails-at [] c.self.inside.slots c.args.slot _ _ _ c.index.ensures (omega arith) (rw (c.give_up.ensures, c.write.ensures.same) at c.fail.ensures.after)
    (rw (c.give_up.ensures, c.write.ensures.same) at c.fail.ensures.rose))

pub returns-clause-ok : goal.returns-clause-ok
returns-clause-ok g c =
    rw (← c.self.view_is) (Adds-untold c.self.inside.slots c.args.slot _ _ _ _ c.index.ensures (omega arith) c.write.ensures.same)

pub returns-clause-within : goal.returns-clause-within
returns-clause-within g c = (omega arith, rw c.unwrap_or-count.ensures (within_or_none c.write.result _ c.write.ensures.within))
