use Rattle.std.proofs.Common.{refl, ap, ◌∙◌}
use Rattle.ccsl_vcd_read.specs.Passing.{Passing}
use Rattle.ccsl_vcd_read.proofs.Passing.{passes, enter}
use Rattle.ccsl_vcd_read.proofs.lexer.Lexer.pass.Goals as goal

pub returns : goal.returns
returns c = λ bytes part t h n g k. passes _ _ bytes part c.args.count (enter _ _ bytes c.self.view_is t) refl
    (ap (λ (x : Passing). x.inner.open_text) c.self.view_is ∙ c.requires.nothing_open) h n g k
