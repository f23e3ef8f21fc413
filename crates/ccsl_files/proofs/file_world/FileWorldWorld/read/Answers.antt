use Rattle.std.proofs.Common.{◌≡◌, ◌≤◌, ◌∙◌, sym, [], length, get_or, refl, arith}
use Rattle.std.specs.Counts.{IsPrefixLen}
use Rattle.std.proofs.lemmas.Result.{IfOk-at_ok}
use Rattle.std.proofs.lemmas.Grind.{common_steps}
use Rattle.ccsl_edge.proofs.OneSlot.{Fails-at}
use Rattle.ccsl_files.proofs.Untold.{slot-within, Takes-untold}
use Rattle.ccsl_files.proofs.file_world.FileWorldWorld.read.Goals as goal
use Rattle.ccsl_files.proofs.file_world.FileWorldWorld.read.Goals.{in-Input, in_default}

pub offset_bounds-self-inside-index : goal.offset_bounds-self-inside-index
offset_bounds-self-inside-index g c = grind (arith, common_steps)

pub bounds-self-inside-index : goal.bounds-self-inside-index
bounds-self-inside-index g c = slot-within c.args.slot c.index.ensures refl

pub listed : goal.listed
listed g c = slot-within c.args.slot c.index.ensures (omega arith)

pub returns-in_default-answer-clause-err : goal.returns-in_default-answer-clause-err
returns-in_default-answer-clause-err g c =
    let same = elim c.match-slot.branch as (λ _. c.match-slot.channel ≡ get_or c.self.inside.slots c.index.result c.index-self-index.result)
    [ in-Input w ↦ w.channel-is | in_default w ↦ w.channel-is ∙ w.read-answer-in_default.ensures.same ] in
    rw (← c.self.view_is)
    (Fails-at [] c.self.inside.slots c.args.slot _ _ _ c.index.ensures (omega arith) (rw same at c.fail.ensures.after)
    (rw same at c.fail.ensures.rose))

pub returns-clause-ok : goal.returns-clause-ok
returns-clause-ok g c =
    let same = elim c.match-slot.branch as (λ _. c.match-slot.channel ≡ get_or c.self.inside.slots c.index.result c.index-self-index.result)
    [ in-Input w ↦ w.channel-is | in_default w ↦ w.channel-is ∙ w.read-answer-in_default.ensures.same ] in
    let within = elim c.match-slot.branch as (λ _. c.in-Ok.count ≤ length c.match-slot.buf) [
      | in-Input w ↦
          rw w.buf-is
          (IfOk-at_ok (λ n. IsPrefixLen n w.read-answer.new.buf) (sym w.answer-is ∙ c.in-Ok.is) w.read-answer.ensures.bound).0
      | in_default w ↦
          rw w.buf-is
          (IfOk-at_ok (λ n. n ≤ length w.read-answer-in_default.new.buf) (sym w.answer-is ∙ c.in-Ok.is)
          w.read-answer-in_default.ensures.within)
    ] in
    rw (← c.self.view_is) (Takes-untold c.self.inside.slots c.args.slot _ _ _ _ _ c.index.ensures (omega arith) same within)
