use Rattle.std.proofs.Common.{sym, subst}
use Rattle.ccsl_vcd_read.specs.declared.stage.Stage.{Stage}
use Rattle.ccsl_vcd_read.specs.Staging.{IsClosing}
use Rattle.ccsl_vcd_read.proofs.StagePictures.{begins}
use Rattle.ccsl_vcd_read.proofs.stage.begin_body.Goals as goal

pub returns-in-Ok-clause-goes : goal.returns-in-Ok-clause-goes
returns-in-Ok-clause-goes c = λ wanted st next k.
    let closes = subst (λ (x : Stage). IsClosing wanted x st next) (sym c.in-Header.ensures.value) k in
    begins wanted c.in-Header.heading st next closes c.in-Ok.body (c.in-Ok.ensures.opened wanted closes.declared closes.binds)
