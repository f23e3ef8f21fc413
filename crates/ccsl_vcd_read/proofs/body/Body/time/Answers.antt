use Rattle.std.proofs.Common.{rules}
use Rattle.ccsl_vcd_read.proofs.body.Body.time.Goals as goal

pub returns-then-time-self-clause-said : goal.returns-then-time-self-clause-said
returns-then-time-self-clause-said c = search rules
