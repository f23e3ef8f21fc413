use Rattle.std.proofs.Common.{◌≡◌, take}
use Rattle.ccsl_vcd_read.specs.Kept.{put_all}
use Rattle.ccsl_vcd_read.proofs.marks.put_all.Given as goal

abbrev pub invariant-loop-slot : goal.invariant-loop-slot
invariant-loop-slot l = l.now ≡ put_all l.code l.one l.dumped (take l.slot-index l.slots) l.fn.now
