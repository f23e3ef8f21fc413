use Rattle.std.proofs.Common.{arith}
use Rattle.ccsl_vcd_read.proofs.Letters.{last-is}
use Rattle.ccsl_vcd_read.proofs.word.last_of.Goals as goal

pub returns-in-len1-up : goal.returns-in-len1-up
returns-in-len1-up c = last-is c.args.first c.args.rest.now (omega (arith, c.in-len1-up.len_at_least))
