use Rattle.std.proofs.Common.{ap, ◌∙◌}
use Rattle.ccsl_vcd_read.specs.Staging.{shown}
use Rattle.ccsl_vcd_read.specs.Reading.{Reading}
use Rattle.ccsl_vcd_read.proofs.StagePictures.{caused-map}
use Rattle.ccsl_vcd_read.proofs.Taking.{running-of}
use Rattle.ccsl_vcd_read.proofs.Ending.{running-shown, stopped-shown, when-none, when-some}
use Rattle.ccsl_vcd_read.proofs.reader.Reader.bound.Goals as goal

pub returns-clause-runs : goal.returns-clause-runs
returns-clause-runs c =
    when-none c.args.self.now.fault (λ e. λ wanted bytes t.
    c.bound.ensures ∙ ap (λ (x : Reading). shown x.stage) c.self.view_is
    ∙ running-shown wanted c.args.self.now bytes (running-of wanted c.args.self.now bytes e t))

pub returns-clause-stopped : goal.returns-clause-stopped
returns-clause-stopped c =
    when-some c.args.self.now.fault _ (λ f e.
    caused-map f (λ h. λ wanted bytes t. c.bound.ensures ∙ ap (λ (x : Reading). shown x.stage) c.self.view_is ∙ h wanted bytes t)
    (stopped-shown c.args.self.now f e))
