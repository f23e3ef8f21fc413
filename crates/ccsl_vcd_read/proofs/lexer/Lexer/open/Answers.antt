use Rattle.ccsl_vcd_read.proofs.Passing.{opens}
use Rattle.ccsl_vcd_read.proofs.lexer.Lexer.open.Goals as goal

pub returns : goal.returns
returns c = opens c.in_ok-inner.inner c.in_ok-inner.ensures.stands
