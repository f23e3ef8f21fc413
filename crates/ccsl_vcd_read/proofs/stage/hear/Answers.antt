use Rattle.std.proofs.Common.{false, sym, subst}
use Rattle.ccsl_vcd_lex.specs.Tokens.{token, word}
use Rattle.ccsl_vcd.specs.Binding.{Wanted}
use Rattle.ccsl_vcd.specs.Reading.{Story, next}
use Rattle.ccsl_vcd_read.specs.declared.stage.Stage.{Stage}
use Rattle.ccsl_vcd_read.specs.declared.stage.Stage.TheVariants as stage
use Rattle.ccsl_vcd_read.specs.Staging.{Pictures, Heard}
use Rattle.ccsl_vcd_read.proofs.HeadPictures.{weaken}
use Rattle.ccsl_vcd_read.proofs.StagePictures.{body-heard, body-refused, room-left}
use Rattle.ccsl_vcd_read.proofs.stage.hear.Goals as goal

pub returns-in-Ok-clause-heard : goal.returns-in-Ok-clause-heard
returns-in-Ok-clause-heard c = λ wanted st s.
    subst (λ (x : Stage). Heard wanted c.args.limits x (stage.Body c.hear.new.self) false st
    (next wanted c.args.limits st (word (token c.args.at c.args.text.now))) c.args.out.now.rows c.hear.new.out.rows) (sym c.in-Body.is)
    (body-heard wanted c.args.limits c.in-Body.body c.hear.new.self st c.args.at c.args.text.now c.args.out.now.rows c.hear.new.out.rows c.in-Ok.ensures.said
    (subst (λ (x : Stage). Pictures wanted c.args.limits x st) c.in-Body.is s))

pub returns-in-Ok-clause-left : goal.returns-in-Ok-clause-left
returns-in-Ok-clause-left c = room-left c.in-Body.body c.hear.new.self c.args.at c.args.text.now c.args.out.now.rows c.hear.new.out.rows c.in-Ok.ensures.said

pub returns-in-Err-clause-refuses : goal.returns-in-Err-clause-refuses
returns-in-Err-clause-refuses c =
    weaken c.in-Err.fault (λ (wanted : Wanted) (st : Story) (s : Pictures wanted c.args.limits c.args.stage.now st).
    body-refused wanted c.args.limits c.in-Body.body c.hear.new.self st c.args.at c.args.text.now c.in-Err.fault c.args.out.now.rows c.hear.new.out.rows
    c.in-Err.ensures.said (subst (λ (x : Stage). Pictures wanted c.args.limits x st) c.in-Body.is s))
