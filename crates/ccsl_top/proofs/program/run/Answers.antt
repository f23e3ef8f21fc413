use Rattle.ccsl_top.proofs.Commands.{refusal-oks, starved-errs}
use Rattle.ccsl_top.proofs.program.run.Goals as goal

pub returns-in-Err : goal.returns-in-Err
returns-in-Err g c =
    let now = g.W.World.state c.args.world.now in
    c.report.ensures c.args.words.now now
    (refusal-oks g.W.World.told now c.refuse_words.result c.args.words.now c.in-Err.fault
    c.in-Err.ensures.refused c.refuse_words.ensures.cause c.refuse_words.ensures.reply)
    (starved-errs g.W.World.told now c.refuse_words.result c.refuse_words.ensures.stop c.args.words.now)
