use Rattle.std.proofs.Common.{rules}
use Rattle.ccsl_vcd_read.proofs.marks.put_in.Goals as goal

pub returns-then-not-dumped : goal.returns-then-not-dumped
returns-then-not-dumped c = search rules
