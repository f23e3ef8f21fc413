use Rattle.std.proofs.Common.{arith}
use Rattle.std.proofs.lemmas.Grind.{common_steps}
use Rattle.ccsl_vcd_read.proofs.heading.reference_in.Goals as goal

pub returns-then-is_text : goal.returns-then-is_text
returns-then-is_text c = grind (arith, common_steps)
