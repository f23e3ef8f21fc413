use Rattle.std.proofs.Common.{sym, ap, ◌∙◌, subst, arith, length, length-append}
use Rattle.ccsl_vcd_read.specs.Staging.{Pictures}
use Rattle.ccsl_vcd_read.specs.Reading.{Reading}
use Rattle.ccsl_vcd_read.proofs.reader.Reader.hear_token.Goals as goal

pub overflow_sub-self : goal.overflow_sub-self
overflow_sub-self c =
    let h = c.in-Ok.ensures.heard c.requires.pictures.0 c.requires.pictures.1
    (subst (λ (x : Reading). Pictures c.requires.pictures.0 x.limits x.stage c.requires.pictures.1) (sym c.self.view_is) c.requires.pictures.2) in
    let e = ap length h.block ∙ length-append _ h.pushed in
    omega (arith, e, c.len.ensures, c.len-before.ensures)
