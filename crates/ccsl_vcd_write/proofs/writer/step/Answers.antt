use Rattle.std.proofs.Common.{rules, arith}
use Rattle.std.proofs.lemmas.Grind.{common_steps}
use Rattle.ccsl_vcd_write.proofs.writer.step.Goals as goal

pub put_tick-requires-clause-room : goal.put_tick-requires-clause-room
put_tick-requires-clause-room c = search rules

pub loop-clock-init : goal.loop-clock-init
loop-clock-init c = grind (arith, common_steps)

pub put_time-requires : goal.put_time-requires
put_time-requires c = search rules

pub loop-clock-preserved-then-clock-written : goal.loop-clock-preserved-then-clock-written
loop-clock-preserved-then-clock-written c = grind (arith, common_steps)
