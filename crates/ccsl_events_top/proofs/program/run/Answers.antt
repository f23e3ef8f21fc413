use Rattle.ccsl_events_top.specs.Words.{named_by}
use Rattle.ccsl_events_top.proofs.Promising.{Stage, stage-words, stage-files, reports, promise}
use Rattle.ccsl_events_top.proofs.program.run.Goals as goal
use Rattle.ccsl_events_top.proofs.program.run.Goals.{in-Ok, in-Err}

pub returns : goal.returns
returns g c =
    let stage : Stage g.W.World.told c.args.words.now c.match-meaning.done (g.W.World.state c.args.world.now) (g.W.World.state c.match-meaning.world) =
    elim c.match-meaning.branch [
      | in-Ok w ↦
          rw (w.done-is, w.world-is)
          (stage-files g.W.World.told c.args.words.now (named_by w.in-Ok.command) _ _ w.in-Ok.ensures.meant w.make-done.result w.make-done.ensures)
      | in-Err w ↦
          rw (w.done-is, w.world-is) (stage-words g.W.World.told c.args.words.now w.in-Err.fault _ w.in-Err.ensures.refused)
    ] in
    promise g.W.World.told c.args.words.now c.match-meaning.done c.answer_to.result c.report.result _ _ _ stage c.answer_to.ensures
    (reports g.W.World.told _ c.answer_to.result c.report.result _ _ c.report.ensures)
