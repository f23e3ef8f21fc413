use Rattle.ccsl_base.specs.declared.limits.TheConstants.{MAX_CLOCKS}
use Rattle.ccsl_vcd_read.proofs.Kept.{clock-below}
use Rattle.ccsl_vcd_read.proofs.marks.put_all.Goals as goal

pub put_in-requires : goal.put_in-requires
put_in-requires c = clock-below MAX_CLOCKS c.args.slots.now c.loop-slot.slot-index _ c.requires c.loop-slot-test.true
