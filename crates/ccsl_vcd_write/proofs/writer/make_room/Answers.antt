use Rattle.std.proofs.Common.{nat_lt, arith}
use Rattle.ccsl_vcd_write.proofs.Growing.{filter-shorter}
use Rattle.ccsl_vcd_write.proofs.Sizes.{written-few}
use Rattle.ccsl_vcd_write.proofs.writer.make_room.Goals as goal

pub returns-in_ok-reserve_step-clause-room : goal.returns-in_ok-reserve_step-clause-room
returns-in_ok-reserve_step-clause-room c =
    omega (arith, c.in_ok-reserve_step.ensures.room, filter-shorter (λ x. nat_lt x c.args.system.now.written) c.args.ticks.now)

pub returns-else-capacity-len-clause-room : goal.returns-else-capacity-len-clause-room
returns-else-capacity-len-clause-room c =
    omega (arith, c.if-capacity-len.false, c.written.ensures.written, written-few c.args.system.now c.args.ticks.now c.requires.ascending)
