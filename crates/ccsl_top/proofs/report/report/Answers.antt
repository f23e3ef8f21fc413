use Rattle.std.proofs.lemmas.Result.{IfOk-at_ok, IfErr-at_err}
use Rattle.ccsl_top.specs.Answered.{Answered, IsUnanswered}
use Rattle.ccsl_top.proofs.Headlines.{headline-reported, headline-unreported, headline-stopped}
use Rattle.ccsl_top.proofs.report.report.Goals as goal

pub returns-in-Err : goal.returns-in-Err
returns-in-Err g c = λ words start oks errs.
    let now = g.W.World.state c.args.world.now in
    rw c.stop_code.ensures
    (headline-stopped g.W.World.told words start now c.in-Err.stop (IfErr-at_err (λ stop. IsUnanswered stop g.W.World.told words start now) c.in-Err.is errs))

pub returns-in-Ok-write_all : goal.returns-in-Ok-write_all
returns-in-Ok-write_all g c = λ words start oks errs.
    let now = g.W.World.state c.args.world.now in
    rw c.code.ensures
    (headline-reported g.W.World.told words start c.in-Ok.reply now (g.W.World.state c.write_all.new.world)
    (IfOk-at_ok (λ reply. Answered g.W.World.told words reply start now) c.in-Ok.is oks)
    (rw c.as_slice.ensures.value at c.in-Ok-write_all.ensures.ok))

pub returns : goal.returns
returns g c = λ words start oks errs.
    let now = g.W.World.state c.args.world.now in
    headline-unreported g.W.World.told words start c.in-Ok.reply now (g.W.World.state c.write_all.new.world)
    (IfOk-at_ok (λ reply. Answered g.W.World.told words reply start now) c.in-Ok.is oks)
    (rw c.as_slice.ensures.value at c.in-Err-write_all.ensures.err)
